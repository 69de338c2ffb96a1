-- A declared message is among the declared types, and its name among theirs.
use Rattle.std.proofs.Common.{◌≡◌, List, [], ◌∷◌, ◌++◌, map, flat_map, sym, subst}
use Rattle.protobuf_parse_model.specs.Descriptors.{Text}
use Rattle.protobuf_parse_model.specs.Faults.{Among, here, there}
use Rattle.protobuf_parse_model.specs.Declarations.{DeclaredType, MessageOrEnum, a_message, an_enum}
use Rattle.protobuf_parse_model.proofs.Blaming.{among_left, among_right}
use Rattle.protobuf_parse_elaboration.specs.NamedTypes.{if_message, declared_message_name}

-- what stands in the first of two lists, or in a list with all of it
pub front : {A : Type 0} (xs xs' zs : List A) (x : A) → ((y : A) → Among xs y → Among xs' y)
    → Among (xs ++ zs) x → Among (xs' ++ zs) x
front [] xs' zs x f h = among_right xs' h
front (y ∷ xs) xs' zs _ f here = among_left zs (f y here)
front (y ∷ xs) xs' zs x f (there h) = front xs xs' zs x (λ z k. f z (there k)) h

-- the same of the second
back : {A : Type 0} (xs ys ys' : List A) (x : A) → (Among ys x → Among ys' x) → Among (xs ++ ys) x
    → Among (xs ++ ys') x
back [] ys ys' x f h = f h
back (z ∷ xs) ys ys' _ f here = here
back (z ∷ xs) ys ys' x f (there h) = there (back xs ys ys' x f h)

-- the name of a message is one of a type
pub message-told : (ds : List DeclaredType) (n : Text) → Among (flat_map declared_message_name ds) n
    → Among (map (λ (d : DeclaredType). d.name) ds) n
message-told [] n h = elim h [ ]
message-told (d ∷ ds) n h = at d.what h (message-told ds n)
  where
    at : (k : MessageOrEnum) → Among (if_message k d.name ++ flat_map declared_message_name ds) n
        → (Among (flat_map declared_message_name ds) n
        → Among (map (λ (x : DeclaredType). x.name) ds) n)
        → Among (map (λ (x : DeclaredType). x.name) (d ∷ ds)) n
    at a_message k rest =
        back (d.name ∷ []) (flat_map declared_message_name ds)
        (map (λ (x : DeclaredType). x.name) ds) n rest k
    at an_enum k rest = there (rest k)

-- a message that is declared has its name among those of messages
pub message-from : (ds : List DeclaredType) (d : DeclaredType) → Among ds d → d.what ≡ a_message
    → Among (flat_map declared_message_name ds) d.name
message-from [] d h e = elim h [ ]
message-from (d ∷ ds) _ here e =
    among_left (flat_map declared_message_name ds)
    (subst (λ (k : MessageOrEnum). Among (if_message k d.name) d.name) (sym e) here)
message-from (x ∷ ds) d (there h) e = among_right (declared_message_name x) (message-from ds d h e)
