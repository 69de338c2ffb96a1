use Rattle.protobuf_parse_options.proofs.BareNumbers.{numbers_ignore_options}
use Rattle.protobuf_parse_options.proofs.WithoutOptions as alike
use Rattle.protobuf_parse_options.proofs.laws.options_are_not_read.Goals as goal

pub returns-clause-reading : goal.returns-clause-reading
returns-clause-reading c = alike.reading_ignores_options

pub returns-clause-meaning : goal.returns-clause-meaning
returns-clause-meaning c = alike.meaning_ignores_options

pub returns-clause-customs : goal.returns-clause-customs
returns-clause-customs c = alike.customs_ignore_options

pub returns-clause-descriptors : goal.returns-clause-descriptors
returns-clause-descriptors c = alike.customs_are_options

pub returns-clause-by_path : goal.returns-clause-by_path
returns-clause-by_path c = alike.customs_make_no_difference

pub returns-clause-numbers : goal.returns-clause-numbers
returns-clause-numbers c = numbers_ignore_options
