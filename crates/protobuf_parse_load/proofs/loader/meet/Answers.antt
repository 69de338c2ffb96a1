use Rattle.std.proofs.Common.{◌≡◌, ◌-◌, ◌<◌, ℕ, true, false, None, Some, length, refl}
use Rattle.std.proofs.Common.{arith}
use Rattle.std.proofs.Common.{cond, inl, inr, List}
use Rattle.std.specs.Prelude.{bytes_eq, is_some, nat_le}
use Rattle.std.proofs.lemmas.Bool.Decides.{nat_tests}
use Rattle.protobuf_parse_model.specs.Descriptors.{Text}
use Rattle.protobuf_parse_run.specs.Walks.{among}
use Rattle.protobuf_parse_run.proofs.Keeping.{bool_cases, false_true, text-true}
use Rattle.protobuf_parse_load.specs.declared.known.Known.TheVariants.{Unreadable, Loaded}
use Rattle.protobuf_parse_load.specs.Frames.{chain_in}
use Rattle.protobuf_parse_load.specs.Loads.{steps_view}
use Rattle.protobuf_parse_load.specs.Requests.{path_in}
use Rattle.protobuf_parse_load.specs.Steps.{Step, is_cycle, is_too_long, is_unread, known}
use Rattle.protobuf_parse_load.proofs.Adding.{chain-told, known-told, texts-length}
use Rattle.protobuf_parse_load.proofs.Machine.{meet-cycle, meet-long, meet-unread}
use Rattle.protobuf_parse_load.proofs.Meeting.{met-loaded, met-new, met-told, walk-full}
use Rattle.protobuf_parse_load.proofs.loader.meet.Goals as goal

le-false : (a b : ℕ) → b < a → nat_le a b ≡ false
le-false a b h = grind (arith, nat_tests)

-- a path that was told as unread is known to be
known-again : (q p : Text) (steps : List Step) (m : ℕ) → known p steps ≡ Some (Unreadable m)
    → is_some (cond (bytes_eq q p) (Some (Unreadable m)) None) ≡ true
    → is_some (known q steps) ≡ true
known-again q p steps m is h =
    elim (bool_cases (bytes_eq q p)) [
      | inl w ↦ rw (text-true q p w, is) refl
      | inr w ↦ absurd (false_true (rw w at h))
    ]

pub returns-then-is_on_chain : goal.returns-then-is_on_chain
returns-then-is_on_chain g c =
    let old = c.args.loader.now in
    let n = texts-length old.chain.items in
    let on : among (path_in c.args.request.now) (chain_in old) ≡ true =
    chain-told _ _ _ _ c.is_on_chain.result true c.path_of-path.ensures c.deref.ensures.value
    c.is_on_chain.ensures c.if-is_on_chain.true in
    met-told _ _ _ _ _ old _ _ is_cycle refl refl refl refl c.tell.ensures.joined
    c.tell.ensures.step (λ trees a is. meet-cycle trees _ _ _ _ _ _ a on)
    (omega (arith, n, c.requires.chain)) c.requires.decided c.requires.remembers
    (λ q h. absurd (false_true h))

pub returns-in-Some-Unreadable : goal.returns-in-Some-Unreadable
returns-in-Some-Unreadable g c =
    let old = c.args.loader.now in
    let n = texts-length old.chain.items in
    let off : among (path_in c.args.request.now) (chain_in old) ≡ false =
    chain-told _ _ _ _ c.is_on_chain.result false c.path_of-path.ensures c.deref.ensures.value
    c.is_on_chain.ensures c.if-is_on_chain.false in
    let m = c.in-Some-Unreadable.number in
    let is : known (path_in c.args.request.now) (steps_view old.steps.list) ≡ Some (Unreadable m) =
    known-told _ _ old.steps.list _ c.path_of-path.ensures
    (rw c.in-Some-Unreadable.field-0-is at c.in-Some-Unreadable.ensures) in
    met-told _ _ _ _ _ old _ _ (is_unread m) refl refl refl refl
    c.tell-in-Some-Unreadable.ensures.joined c.tell-in-Some-Unreadable.ensures.step
    (λ trees a at. meet-unread trees _ _ _ _ _ _ a m off (rw at is))
    (omega (arith, n, c.requires.chain)) c.requires.decided c.requires.remembers
    (λ q h. known-again q (path_in c.args.request.now) (steps_view old.steps.list) m is h)

pub returns-in-Some-Loaded : goal.returns-in-Some-Loaded
returns-in-Some-Loaded g c =
    let old = c.args.loader.now in
    let n = texts-length old.chain.items in
    let off : among (path_in c.args.request.now) (chain_in old) ≡ false =
    chain-told _ _ _ _ c.is_on_chain.result false c.path_of-path.ensures c.deref.ensures.value
    c.is_on_chain.ensures c.if-is_on_chain.false in
    let h = c.in-Some-Loaded.height in
    let is : known (path_in c.args.request.now) (steps_view old.steps.list) ≡ Some (Loaded h) =
    known-told _ _ old.steps.list _ c.path_of-path.ensures
    (rw c.in-Some-Loaded.field-0-is at c.in-Some-Loaded.ensures) in
    met-loaded _ _ _ _ _ old h off is (omega (arith, n, c.requires.chain))
    (omega (arith, n, c.if-height-room.true, c.len-room.ensures, old.chain.ok.0))
    c.requires.decided c.requires.remembers

pub returns-in-Some-Loaded-2 : goal.returns-in-Some-Loaded-2
returns-in-Some-Loaded-2 g c =
    let old = c.args.loader.now in
    let n = texts-length old.chain.items in
    let off : among (path_in c.args.request.now) (chain_in old) ≡ false =
    chain-told _ _ _ _ c.is_on_chain.result false c.path_of-path.ensures c.deref.ensures.value
    c.is_on_chain.ensures c.if-is_on_chain.false in
    let h = c.in-Some-Loaded.height in
    let is : known (path_in c.args.request.now) (steps_view old.steps.list) ≡ Some (Loaded h) =
    known-told _ _ old.steps.list _ c.path_of-path.ensures
    (rw c.in-Some-Loaded.field-0-is at c.in-Some-Loaded.ensures) in
    let high : nat_le h (100 - length (chain_in old)) ≡ false = le-false h _
    (omega (arith, n, c.if-height-room.false, c.len-room.ensures, old.chain.ok.0)) in
    met-told _ _ _ _ _ old _ _ (is_too_long c.args.input.now) refl refl refl refl
    c.tell_long.ensures.joined c.tell_long.ensures.step
    (λ trees a at. meet-long trees _ _ _ _ _ _ a h off (rw at is) high)
    (omega (arith, n, c.requires.chain)) c.requires.decided c.requires.remembers
    (λ q h. absurd (false_true h))

pub returns-in-None : goal.returns-in-None
returns-in-None g c =
    let old = c.args.loader.now in
    let n = texts-length old.chain.items in
    let off : among (path_in c.args.request.now) (chain_in old) ≡ false =
    chain-told _ _ _ _ c.is_on_chain.result false c.path_of-path.ensures c.deref.ensures.value
    c.is_on_chain.ensures c.if-is_on_chain.false in
    let is : known (path_in c.args.request.now) (steps_view old.steps.list) ≡ None =
    known-told _ _ old.steps.list _ c.path_of-path.ensures c.in-None.ensures in
    let room : 100 - length (chain_in old) ≡ 0 =
    omega (arith, n, c.if-room-eq0.true, c.len-room.ensures, old.chain.ok.0) in
    met-told _ _ _ _ _ old _ _ (is_too_long c.args.input.now) refl refl refl refl
    c.tell_long-in-None.ensures.joined c.tell_long-in-None.ensures.step
    (λ trees a at. walk-full g.R.ProtoPathResolver.may_answer g.I.InputReader.may_read
    c.args.sources.now _ _ trees _ a off (rw at is) room)
    (omega (arith, n, c.requires.chain)) c.requires.decided c.requires.remembers
    (λ q h. absurd (false_true h))

pub returns-in-None-2 : goal.returns-in-None-2
returns-in-None-2 g c =
    let old = c.args.loader.now in
    let n = texts-length old.chain.items in
    let off : among (path_in c.args.request.now) (chain_in old) ≡ false =
    chain-told _ _ _ _ c.is_on_chain.result false c.path_of-path.ensures c.deref.ensures.value
    c.is_on_chain.ensures c.if-is_on_chain.false in
    let is : known (path_in c.args.request.now) (steps_view old.steps.list) ≡ None =
    known-told _ _ old.steps.list _ c.path_of-path.ensures c.in-None-2.ensures in
    met-new _ _ _ _ _ old _ off is (omega (arith, n, c.requires.chain))
    (λ room. c.if-room-eq0.false
    (omega (arith, n, room, c.len-room.ensures, old.chain.ok.0)))
    c.requires.decided c.requires.remembers _ c.read_new.ensures
