use Rattle.std.proofs.Common.{◌∙◌, ◌++◌, ◌∷◌, [], List, ap, map, string_bytes, sym}
use Rattle.std.proofs.Common.{subst, take, ◌+◌, if◌then◌else◌}
use Rattle.std.specs.Prelude.{bytes_eq}
use Rattle.protobuf_parse_base.specs.Multimaps.{values_under}
use Rattle.protobuf_parse_model.specs.Descriptors.{Text}
use Rattle.protobuf_parse_check.specs.Judging.{Bringers, BringsNames, is_new}
use Rattle.protobuf_parse_check.proofs.BringingNames.{brings-new, brings-old, named-more, named-whole}
use Rattle.protobuf_parse_check.proofs.BringingNames.{pushed-name}
use Rattle.protobuf_parse_check.proofs.repeats.add_names.Goals as goal
use Rattle.protobuf_parse_check.proofs.repeats.add_names.Goals.{then-is_new+in_ok-clone+in_ok-push+in_ok-clone-2+in_ok-put}
use Rattle.protobuf_parse_check.proofs.repeats.add_names.Goals.{else-is_new}

pub loop-name-preserved : goal.loop-name-preserved
loop-name-preserved c trees candidates first tells old =
    let reach = c.args.seen.now.reach.now in
    let listed = c.listed_names-listed.result.now in
    let i = c.loop-name.name-index in
    let name = string_bytes c.name-item.result in
    let so_far = c.loop-name.invariant trees candidates first tells old in
    let names = map string_bytes c.loop-name.names.items in
    let front = candidates ++ map string_bytes (take i listed) in
    let seam = named-more candidates listed i c.name-item.result c.loop-name-test.true
    c.name-item.is in
    elim c.if-is_new.branch [
      | then-is_new+in_ok-clone+in_ok-push+in_ok-clone-2+in_ok-put w ↦
          let mid = c.loop-name.bringers in
          let is = ap (is_new trees reach c.args.extension mid) (sym c.deref.ensures)
          ∙ sym (c.is_new.ensures trees tells) ∙ w.if-is_new.true in
          let noted = brings-new trees reach c.args.extension c.args.own c.requires.own first mid
          names front so_far name w.put.new.map is
          (λ q. w.in_ok-put.ensures.ok q
          ∙ ap (λ (z : Text). if bytes_eq q z then values_under mid q ++ c.args.own ∷ []
          else values_under mid q) w.in_ok-clone-2.ensures.cases) in
          subst (λ (ns : List Text). BringsNames trees reach c.args.extension
          (candidates ++ map string_bytes (take (i + 1) listed)) c.args.own first
          c.if-is_new.bringers ns)
          (sym (ap (λ v. map string_bytes v.items) w.names-is
          ∙ pushed-name c.loop-name.names.items w.push.new.self.items w.in_ok-clone.field-0 name
          w.in_ok-push.ensures.items w.in_ok-clone.ensures.cases))
          (subst (λ (b : Bringers). BringsNames trees reach c.args.extension
          (candidates ++ map string_bytes (take (i + 1) listed)) c.args.own first b
          (names ++ name ∷ [])) (sym w.bringers-is)
          (subst (λ (cs : List Text). BringsNames trees reach c.args.extension cs c.args.own first
          w.put.new.map (names ++ name ∷ [])) (sym seam) noted))
      | else-is_new w ↦
          let mid = c.loop-name.bringers in
          let old_name = ap (is_new trees reach c.args.extension mid) (sym c.deref.ensures)
          ∙ sym (c.is_new.ensures trees tells) ∙ w.if-is_new.false in
          let noted = brings-old trees reach c.args.extension c.args.own c.requires.own first mid
          names front so_far name old_name in
          subst (λ (ns : List Text). BringsNames trees reach c.args.extension
          (candidates ++ map string_bytes (take (i + 1) listed)) c.args.own first
          c.if-is_new.bringers ns)
          (sym (ap (λ v. map string_bytes v.items) w.names-is))
          (subst (λ (b : Bringers). BringsNames trees reach c.args.extension
          (candidates ++ map string_bytes (take (i + 1) listed)) c.args.own first b names)
          (sym w.bringers-is)
          (subst (λ (cs : List Text). BringsNames trees reach c.args.extension cs c.args.own first
          mid names) (sym seam) noted))
    ]

pub returns : goal.returns
returns c trees candidates first tells old =
    let listed = c.listed_names-listed.result.now in
    subst (λ (cs : List Text). BringsNames trees c.args.seen.now.reach.now c.args.extension cs
    c.args.own first c.loop-name.bringers (map string_bytes c.loop-name.names.items))
    (named-whole candidates listed c.loop-name.name-index c.loop-name-test.false
    ∙ ap (λ ns. candidates ++ ns) c.listed_names-listed.ensures)
    (c.loop-name.invariant trees candidates first tells old)
