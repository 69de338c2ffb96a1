use Rattle.std.proofs.Common.{inl}
use Rattle.protobuf_parse_run.proofs.Refusing.{but_memory}
use Rattle.protobuf_parse_run.proofs.asking.tree_of_text.Goals as goal

pub returns-in_ok-from_str-in_default : goal.returns-in_ok-from_str-in_default
returns-in_ok-from_str-in_default c =
    let other = c.in_default.not-Memory in
    let none = but_memory c.in-Err.error other c.in-Err.ensures.none in
    record {
      tree = tt;
      only = tt;
      treeless = inl none;
      stands =
          inl (
            c.in_ok-from_str-in_default.ensures.ok,
            record {
              treeless = none;
              stands =
                  but_memory c.in-Err.error other c.in-Err.ensures.refused;
            },
          );
    }
