-- Which numbers fields and extensions may have. Protocol Buffers Language Guide (proto2),
-- "Assigning Field Numbers" (https://protobuf.dev): from 1 to 536870911, but for 19000 to 19999. An
-- extension's number has no upper limit of its own: it lies in a range of the message.
use Rattle.std.specs.Prelude.{ℤ, pos, Bool, not, ◌&&◌, if◌then◌else◌, Option, Some, int_lt}
use Rattle.protobuf_parse_rules.specs.Rules.{Broken, broken, broken_if}
use Rattle.protobuf_parse_rules.specs.declared.rule.Rule.TheVariants as rule

-- C2 for a number below 1, C3 for one that is too large, C4 for one that implementations keep
abbrev pub limit : (extension : Bool) → ℤ → Option Broken
limit extension n = if int_lt n (pos 1) then Some (broken (rule.NumberNotPositive n))
    else if not extension && int_lt (pos 536870911) n then Some (broken (rule.NumberTooLarge n))
    else broken_if (not (int_lt n (pos 19000)) && int_lt n (pos 20000))
    (rule.NumberOfImplementation n)
