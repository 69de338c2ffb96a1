use Rattle.protobuf_parse_listing.specs.Listing.{method_words}
use Rattle.protobuf_parse_listing.proofs.Appending.{appended_three, on_ok_then}
use Rattle.protobuf_parse_listing.proofs.declarations.put_method_words.Goals as goal

pub returns : goal.returns
unfolding method_words
returns c =
    on_ok_then c.put_words_if-2.result
    (appended_three _ _ _ _
    (rw (c.deref.ensures, c.deref-2.ensures, c.deref-3.ensures) at c.in_ok-put_names.ensures)
    c.in_ok-put_words_if.ensures)
    c.put_words_if-2.ensures
