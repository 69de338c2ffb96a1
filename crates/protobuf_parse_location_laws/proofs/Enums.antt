-- Enums with their values, and services with their methods.
use Rattle.std.proofs.Common.{ℕ, List, [], ◌∷◌, map, flat_map}
use Rattle.std.specs.Prelude.{codes}
use Rattle.protobuf_parse_syntax.specs.Trees.{EnumStatementSyntax, EnumSyntax, EnumValueSyntax}
use Rattle.protobuf_parse_syntax.specs.Trees.{MethodSyntax, ServiceStatementSyntax, ServiceSyntax}
use Rattle.protobuf_parse_syntax.specs.Trees.{enum_option, enum_reserved, enum_value}
use Rattle.protobuf_parse_syntax.specs.Trees.{service_method, service_option}
use Rattle.protobuf_parse_source_info.specs.Declarations.{enum_body, enum_counted, enum_statement}
use Rattle.protobuf_parse_source_info.specs.Declarations.{enum_walk, no_values, value_parts}
use Rattle.protobuf_parse_source_info.specs.Declarations.{value_walk}
use Rattle.protobuf_parse_source_info.specs.Files.{method_head}
use Rattle.protobuf_parse_source_info.specs.Files.{method_walk, rpc_head}
use Rattle.protobuf_parse_source_info.specs.Files.{service_body, service_statement, service_walk}
use Rattle.protobuf_parse_source_info.specs.Files.{stream_head}
use Rattle.protobuf_parse_source_info.specs.Parts.{at, head, next, nth}
use Rattle.protobuf_parse_source_info.specs.Walks.{Path, Walk, declared, nothing}
use Rattle.protobuf_parse_source_info.specs.Walks.{one as token}
use Rattle.protobuf_parse_source_info.specs.declared.counts.EnumCounts.{EnumCounts}
use Rattle.protobuf_parse_model.specs.Descriptors.{Text}
use Rattle.protobuf_parse_model.specs.Environment.{Environment}
use Rattle.protobuf_parse_elaboration.specs.Enums.{enum_of, enum_values, value_of}
use Rattle.protobuf_parse_elaboration.specs.Services.{method_of, methods_in, service_of}
use Rattle.protobuf_parse_locations.specs.Declarations.{enum_at, method_at, service_at, value_at}
use Rattle.protobuf_parse_location_laws.proofs.Walking.{Finds, Tells, TellsAll, all_within}
use Rattle.protobuf_parse_location_laws.proofs.Walking.{body_within, in_declared, in_either}
use Rattle.protobuf_parse_location_laws.proofs.Walking.{in_first, in_second, in_seeing, none_told}
use Rattle.protobuf_parse_location_laws.proofs.Walking.{of_declared, of_part, one_more}
use Rattle.protobuf_parse_location_laws.proofs.Listing.{Lists, behind_statement, items_told}
use Rattle.protobuf_parse_location_laws.proofs.Listing.{no_items, one_item, up_to_itself}

-- ---- a block with a name in its head

pub in_head : (p : Path) → Finds (at p 1) (head p)
unfolding head
in_head p = in_first _ _ (in_second _ _ (of_part (at p 1) token))

pub block_told : (p : Path) (b : Walk) → Tells p (declared p (head p) b)
block_told p b = record {
  itself = of_declared p (head p) b;
  name = in_declared p (head p) b (in_first (head p) b (in_head p));
}

-- ---- enums

value_told : (p : Path) (v : EnumValueSyntax) → Tells p (value_walk p v)
unfolding value_walk value_parts
value_told p v = record {
  itself = of_declared p _ nothing;
  name = in_declared p _ nothing
      (in_first _ _ (in_first _ _ (in_first _ _ (in_first _ _ (in_first _ _
      (of_part (at p 1) token))))));
}

values_listed : (env : Environment) (scope : Text) (p : Path) (c : EnumCounts)
    (ss : List EnumStatementSyntax)
    → Lists (value_at scope) p 2 c.values (map (value_of env) (flat_map enum_values ss))
    (enum_body p c ss)
unfolding enum_body enum_statement
values_listed env scope p c [] = no_items (value_at scope) p 2 c.values _
values_listed env scope p c (enum_reserved r ∷ ss) =
    behind_statement _ _ (up_to_itself (value_at scope) p 2 c.values _)
    (values_listed env scope p (enum_counted c (enum_reserved r)) ss)
values_listed env scope p c (enum_option o ∷ ss) =
    behind_statement _ _ (up_to_itself (value_at scope) p 2 c.values _)
    (values_listed env scope p c ss)
values_listed env scope p c (enum_value v ∷ ss) =
    behind_statement _ _
    (one_item (value_at scope) p 2 c.values (value_of env v) (value_walk (nth p 2 c.values) v)
    (one_more (value_told (nth p 2 c.values) v) (none_told _)))
    (values_listed env scope p (enum_counted c (enum_value v)) ss)

pub enum_told : (env : Environment) (scope : Text) (p : Path) (e : EnumSyntax)
    → TellsAll (enum_at scope p (enum_of env e)) (enum_walk p e)
unfolding enum_walk
enum_told env scope p e =
    one_more (block_told p _)
    (all_within (body_within p (head p) (enum_body p no_values e.body) token)
    (items_told (values_listed env scope p no_values e.body)))

-- ---- services

in_method_head : (p : Path) (m : MethodSyntax) → Finds (at p 1) (method_head p m)
unfolding method_head rpc_head stream_head
in_method_head p m =
    in_either (codes "stream") (stream_head p) (rpc_head p m)
    (in_first _ _ (in_first _ _ (in_first _ _ (in_first _ _ (in_first _ _ (in_second _ _
    (of_part (at p 1) token)))))))
    (in_first _ _ (in_first _ _ (in_first _ _ (in_second _ _ (of_part (at p 1) token)))))

method_told : (p : Path) (m : MethodSyntax) → Tells p (method_walk p m)
unfolding method_walk
method_told p m = record {
  itself = in_seeing _ (λ a. of_declared p _ _);
  name = in_seeing _ (λ a. in_declared p _ _
      (in_first _ _ (in_first _ _ (in_method_head p m))));
}

methods_listed : (env : Environment) (scope : Text) (p : Path) (i : ℕ)
    (ss : List ServiceStatementSyntax)
    → Lists (method_at scope) p 2 i (map (method_of env) (flat_map methods_in ss))
    (service_body p i ss)
unfolding service_body service_statement
methods_listed env scope p i [] = no_items (method_at scope) p 2 i _
methods_listed env scope p i (service_option o ∷ ss) =
    behind_statement _ _ (up_to_itself (method_at scope) p 2 i _)
    (methods_listed env scope p i ss)
methods_listed env scope p i (service_method m ∷ ss) =
    behind_statement _ _
    (one_item (method_at scope) p 2 i (method_of env m) (method_walk (nth p 2 i) m)
    (one_more (method_told (nth p 2 i) m) (none_told _)))
    (methods_listed env scope p (next i) ss)

pub service_told : (env : Environment) (scope : Text) (p : Path) (s : ServiceSyntax)
    → TellsAll (service_at scope p (service_of env s)) (service_walk p s)
unfolding service_walk
service_told env scope p s =
    one_more (block_told p _)
    (all_within (body_within p (head p) (service_body p 0 s.body) token)
    (items_told (methods_listed env _ p 0 s.body)))
