use Rattle.std.proofs.Common.{inl, inr, refl}
use Rattle.protobuf_parse_base.specs.PathViews.{path_text}
use Rattle.protobuf_parse.specs.Folders.{path_tried}
use Rattle.protobuf_parse_command.proofs.reading.FoldersLooksInIncludes.look_in.Goals as goal

pub returns-in-Err : goal.returns-in-Err
returns-in-Err g c = inr (record {
  place = path_tried c.args.include.now (path_text c.args.path);
  stands = inl refl;
  tried = tt;
})
