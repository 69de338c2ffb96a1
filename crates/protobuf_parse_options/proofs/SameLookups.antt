-- Where names mean the same, the same is wrong in custom options and they denote the same.
use Rattle.std.proofs.Common.{option_map, ap}
use Rattle.protobuf_parse_options.specs.OptionFields.{OptionScope}
use Rattle.protobuf_parse_options.specs.SameLookups.{SameLookups, LookupsDecideFaults}
use Rattle.protobuf_parse_options.specs.SameLookups.{LookupsDecideMeaning}
use Rattle.protobuf_parse_options.specs.WithoutOptions.{bare_field}
use Rattle.protobuf_parse_options.proofs.BareDeclarations.{bare_extension}
use Rattle.protobuf_parse_options.proofs.AlikeLookups.{AlikeLookups, faults-same, meaning-same}

-- So they mean the same but for options.
alike : (at at' : OptionScope) → SameLookups at at' → AlikeLookups at at'
alike at at' same = record {
  fields = λ message name. ap (option_map bare_field) (same.fields message name);
  values = same.values;
  messages = same.messages;
  extensions = λ name. ap (option_map bare_extension) (same.extensions name);
}

pub lookups_decide_faults : LookupsDecideFaults
lookups_decide_faults at at' same construct os = faults-same at at' (alike at at' same) construct os

pub lookups_decide_meaning : LookupsDecideMeaning
lookups_decide_meaning at at' same construct os =
    meaning-same at at' (alike at at' same) construct os
