use Rattle.protobuf_parse_elaboration.specs.OptionViews.{words_seen}
use Rattle.protobuf_parse_elaboration.proofs.Settings.{word_found}
use Rattle.protobuf_parse_elaboration.proofs.constructs.options.said.word_said.Goals as goal

pub returns-in-Ident : goal.returns-in-Ident
returns-in-Ident g c =
    word_found (words_seen c.args.words.now) c.args.value.now c.in-Ident.said c.deref.result.now
    c.under_name.result c.in-Ident.is c.deref.ensures c.under_name.ensures
