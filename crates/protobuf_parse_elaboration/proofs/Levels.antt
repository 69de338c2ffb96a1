-- One level of what nests: a body's statements one after another, and a message inside another as a
-- message.
use Rattle.std.proofs.Common.{◌≡◌, ℕ, ◌+◌, List, [], ◌∷◌, ◌++◌, flat_map}
use Rattle.std.proofs.Common.{length, length-append, refl, sym, ap, ◌∙◌, arith, append_assoc}
use Rattle.protobuf_parse_syntax.specs.Trees.{MessageStatementSyntax, MessageSyntax}
use Rattle.protobuf_parse_syntax.specs.Trees.{message_statements, nested_message}
use Rattle.protobuf_parse_model.proofs.Levels.{message_body_is}
use Rattle.protobuf_parse_model.specs.Environment.{Environment, env_inside}
use Rattle.protobuf_parse_elaboration.specs.Messages.{oneofs_of, fields_of, fields_from, nested_of}
use Rattle.protobuf_parse_elaboration.specs.Messages.{nested_in, message_from, whole_faults}
use Rattle.protobuf_parse_elaboration.specs.Messages.{statement_faults, faults_in}

-- ---- descriptors and faults

pub nested_in_is : (env : Environment) (ss : List MessageStatementSyntax)
    → nested_in env (message_statements ss) ≡ flat_map (nested_of env) ss
nested_in_is env [] = refl
nested_in_is env (s ∷ ss) = rw (nested_in_is env ss) refl

pub nested_of_message : (env : Environment) (m : MessageSyntax)
    → nested_of env (nested_message m)
    ≡ message_from env m.name m.body (flat_map (nested_of (env_inside env m.name)) m.body) ∷ []
nested_of_message env m =
    rw (message_body_is m.body, nested_in_is (env_inside env m.name) m.body) refl

pub faults_in_is : (env : Environment) (ss : List MessageStatementSyntax)
    → faults_in env (message_statements ss) ≡ flat_map (statement_faults env) ss
faults_in_is env [] = refl
faults_in_is env (s ∷ ss) = rw (faults_in_is env ss) refl

pub faults_of_message : (env : Environment) (m : MessageSyntax)
    → statement_faults env (nested_message m)
    ≡ flat_map (statement_faults (env_inside env m.name)) m.body ++ whole_faults env m.name m.body
faults_of_message env m =
    rw (message_body_is m.body, faults_in_is (env_inside env m.name) m.body) refl

-- ---- indices of oneofs

-- the fields of some statements and of those after them, which come behind the oneofs of the former
pub fields_from-append : (env : Environment) (index : ℕ) (xs ys : List MessageStatementSyntax)
    → fields_from env index (xs ++ ys) ≡ fields_from env index xs
    ++ fields_from env (index + length (flat_map (oneofs_of env) xs)) ys
fields_from-append env index [] ys = let same : index + 0 ≡ index = omega arith in rw same refl
fields_from-append env index (x ∷ xs) ys =
    let more = fields_from-append env (index + length (oneofs_of env x)) xs ys in
    let long : length (oneofs_of env x ++ flat_map (oneofs_of env) xs)
    ≡ length (oneofs_of env x) + length (flat_map (oneofs_of env) xs) =
    length-append (oneofs_of env x) (flat_map (oneofs_of env) xs) in
    let same : index + length (oneofs_of env x) + length (flat_map (oneofs_of env) xs)
    ≡ index + length (oneofs_of env x ++ flat_map (oneofs_of env) xs) = omega arith in
    ap (λ fs. fields_of env index x ++ fs)
    (more ∙ ap (λ n. fields_from env (index + length (oneofs_of env x)) xs
    ++ fields_from env n ys) same)
    ∙ sym (append_assoc (fields_of env index x)
    (fields_from env (index + length (oneofs_of env x)) xs)
    (fields_from env (index + length (oneofs_of env x ++ flat_map (oneofs_of env) xs)) ys))
