-- No public clause rests on this file.
-- What asks for a file, and what is read for it.
use Rattle.std.specs.Prelude.{◌≡◌, List, Some, None, IfOk, IfErr}
use Rattle.protobuf_parse_base.specs.PathViews.{path_buf_text}
use Rattle.protobuf_parse_syntax.specs.Trees.{file_syntax}
use Rattle.protobuf_parse_model.specs.Descriptors.{Text}
use Rattle.protobuf_parse_run.specs.declared.one_read.InputRead.{InputRead}
use Rattle.protobuf_parse_run.specs.OneRead.{StandsInRead, text_in}
use Rattle.protobuf_parse_run.specs.Run.{IsTheTree, Legal, MayAnswer, MayRead, MayResolve, OrMemory}
use Rattle.protobuf_parse_run.specs.Run.{input_view}
use Rattle.protobuf_parse_run.specs.Walks.{Asked, asked_of, input_name, the_resolver}
use Rattle.protobuf_parse_load.specs.declared.request.Request.{Request}
use Rattle.protobuf_parse_load.specs.declared.request.Request.TheVariants as request
use Rattle.protobuf_parse_load.specs.declared.request.Sources.{Sources}
use Rattle.protobuf_parse_load.specs.Steps.{AskedBy, by_import, by_input}

-- who asks
abbrev pub asker_in : Request → AskedBy
asker_in (request.Input n input) = by_input n
asker_in (request.Import file import) = by_import file.now import.now.place

-- who is asked
abbrev pub asked_in : Request → Asked
asked_in (request.Input n input) = asked_of (input_view input.now)
asked_in (request.Import file import) = the_resolver

-- for which path
abbrev pub path_in : Request → Text
path_in (request.Input n input) = input_name (input_view input.now)
path_in (request.Import file import) = path_buf_text import.now.path

-- the answers that may be given by those whom a load asks
abbrev pub legal_by : {R I : Type 0} → (R → MayResolve) → (I → MayRead) → Sources R I → Legal
legal_by may_answer may_read sources =
    MayAnswer (may_answer sources.resolver.now) (may_read sources.reader.now)

-- what was read for a path that was asked for so, and its tree or fault
pub record IsReadFor (legal : Legal) (bundled : List (Text × Text)) (asked : Asked) (p : Text)
    (r : InputRead) : Type 0 where
  pub path : path_buf_text r.entry.path ≡ p
  pub answer : legal asked p r.entry.outcome
  pub tree : IfOk r.tree
      (λ t. IsTheTree (text_in bundled r.entry) (Some (file_syntax t)))
  pub treeless : IfErr r.tree (λ f. OrMemory f (IsTheTree (text_in bundled r.entry) None))
  pub stands : IfErr r.tree (λ f. OrMemory f (StandsInRead bundled asked r.entry f))
