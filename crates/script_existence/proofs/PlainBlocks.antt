-- The blocks of lines have every box at one place.
use Rattle.std.proofs.Common.{◌≡◌, ℕ, ◌==◌, List, [], ◌∷◌, ◌++◌, map, length, filter_map, Option, Some, None, unwrap_or, option_map, inl, inr, refl, ap, ap₂, ◌∙◌}
use Rattle.std.specs.List.{cons_option}
use Rattle.std.specs.Option.{option_map_or}
use Rattle.std.proofs.lemmas.Bool.{cases_Bool}
use Rattle.std.proofs.lemmas.List.{map-append}
use Rattle.ipdl_base.specs.Plain.{one_box}
use Rattle.ipdl_base.specs.declared.builtin.Builtin.{Builtin as BuiltinType}
use Rattle.ipdl_base.specs.declared.builtin.Builtin.TheVariants as builtin
use Rattle.ipdl_base.specs.declared.schema.MessageRow.{MessageRow}
use Rattle.ipdl_base.specs.declared.schema.ParamRow.{ParamRow}
use Rattle.ipdl_base.specs.declared.schema.Schema.{Schema}
use Rattle.ipdl_base.specs.declared.schema.Shape.{Shape}
use Rattle.script_reader.specs.declared.line.LineReading.{LineReading}
use Rattle.script_reader.specs.declared.line.LineReading.TheVariants as line
use Rattle.script_reader.specs.declared.statement.Statement.{Statement}
use Rattle.script_reader.specs.declared.statement.Statement.TheVariants as forms
use Rattle.script_reader.specs.declared.written.Atom.{Atom}
use Rattle.script_reader.specs.declared.written.Atom.TheVariants as atom
use Rattle.script_reader.specs.declared.written.Who.{Who}
use Rattle.script_reader.specs.declared.written.Who.TheVariants as whos
use Rattle.script_reader.specs.declared.written.WrittenValue.{WrittenValue, Union', Held'}
use Rattle.script_reader.specs.declared.written.WrittenValue.TheVariants as written
use Rattle.script_reader.specs.declared.written.WrittenValues.{WrittenValues, First'}
use Rattle.script_reader.specs.declared.written.WrittenValues.TheVariants as written_values
use Rattle.value_types.specs.Shapes.{builtin_of, element_of, held_by, fields_of, component_of}
use Rattle.handler_script.specs.declared.action.Block.{Block}
use Rattle.handler_script.specs.declared.term.Term.{Term, None', Some'}
use Rattle.handler_script.specs.declared.term.Term as boxed
use Rattle.handler_script.specs.declared.term.Term.TheVariants as term
use Rattle.handler_script.specs.declared.term.Terms as boxed_list
use Rattle.handler_script.specs.declared.term.Terms.{Terms}
use Rattle.handler_script.specs.Blocks.{BlockContext, side_of, handled_in, standing_of}
use Rattle.handler_script.specs.Broken.{types_of}
use Rattle.handler_script.specs.Messages.{named}
use Rattle.handler_script.specs.Plain.{plain_term, plain_terms, plain_action, plain_block}
use Rattle.handler_script.specs.ScriptOf.{inside, typed, action_by, action_of, reply_of, first_of, block_of, blocks_at, blocks_of}
use Rattle.handler_script.specs.Terms.{bytes_term, who_term, atom_term, term_of, elements_of, terms_of}

-- Terms

bytes_plain : (k : Option BuiltinType) (bytes : List ℕ) → plain_term (bytes_term k bytes) ≡ bytes_term k bytes
bytes_plain (Some builtin.Float) bytes = elim (cases_Bool (length bytes == 4)) [ inl e ↦ rw e refl | inr e ↦ rw e refl ]
bytes_plain (Some builtin.Double) bytes = elim (cases_Bool (length bytes == 8)) [ inl e ↦ rw e refl | inr e ↦ rw e refl ]
bytes_plain k bytes = refl

who_plain : (w : Who) → plain_term (who_term w) ≡ who_term w
who_plain (whos.Param n) = refl
who_plain w = refl

atom_plain : (shape : Shape) (a : Atom) → plain_term (atom_term shape a) ≡ atom_term shape a
atom_plain shape (atom.Bytes bytes) = bytes_plain (builtin_of shape) bytes
atom_plain shape (atom.Who w) = who_plain w
atom_plain shape a = refl

mutual
  value_plain : (schema : Schema) (shape : Shape) (v : WrittenValue) → plain_term (term_of schema shape v) ≡ term_of schema shape v
  value_plain schema shape (written.Atom a) = atom_plain shape a
  value_plain schema shape (written.Struct vs) = ap term.Struct (terms_plain schema (unwrap_or (fields_of schema shape) []) vs)
  value_plain schema shape (written.Array vs) = ap term.Array (elements_plain schema (unwrap_or (element_of shape) shape) vs)
  value_plain schema shape (Union' index _ v) = ap (λ t. boxed.Union' index one_box t) (value_plain schema (unwrap_or (component_of schema shape index) shape) v)
  value_plain schema shape (Held' _ v) = ap (λ t. boxed.Maybe' (Some' one_box t)) (value_plain schema (unwrap_or (held_by shape) shape) v)

  elements_plain : (schema : Schema) (shape : Shape) (vs : WrittenValues) → plain_terms (elements_of schema shape vs) ≡ elements_of schema shape vs
  elements_plain schema shape written_values.Nothing = refl
  elements_plain schema shape (First' _ v _ vs) = ap₂ (λ t ts. boxed_list.First' one_box t one_box ts) (value_plain schema shape v) (elements_plain schema shape vs)

  terms_plain : (schema : Schema) (fields : List ParamRow) (vs : WrittenValues) → plain_terms (terms_of schema fields vs) ≡ terms_of schema fields vs
  terms_plain schema fields written_values.Nothing = refl
  terms_plain schema [] (First' _ v _ vs) = refl
  terms_plain schema (field ∷ fields) (First' _ v _ vs) = ap₂ (λ t ts. boxed_list.First' one_box t one_box ts) (value_plain schema field.shape v) (terms_plain schema fields vs)

-- Actions

action_by-plain : (message : Option MessageRow) (terms : WrittenValues → Terms) → ((vs : WrittenValues) → plain_terms (terms vs) ≡ terms vs) → (s : Statement) → option_map plain_action (action_by message terms s) ≡ action_by message terms s
action_by-plain message terms plain (forms.Send w c) = λ i. action_by message (λ vs. plain vs i) (forms.Send w c)
action_by-plain message terms plain (forms.New n w c) = λ i. action_by message (λ vs. plain vs i) (forms.New n w c)
action_by-plain message terms plain (forms.Resolve vs) = λ i. action_by message (λ vs. plain vs i) (forms.Resolve vs)
action_by-plain message terms plain (forms.ResolveKept n c) = λ i. action_by message (λ vs. plain vs i) (forms.ResolveKept n c)
action_by-plain message terms plain s = refl

action_plain : (schema : Schema) (block : BlockContext) (s : Statement) → option_map plain_action (action_of schema block s) ≡ action_of schema block s
action_plain schema block s = action_by-plain (named schema s) (typed schema block s) (λ vs. terms_plain schema (unwrap_or (types_of schema block s) []) vs) s

reply_plain : (schema : Schema) (block : BlockContext) (s : Statement) → option_map plain_terms (reply_of schema block s) ≡ reply_of schema block s
reply_plain schema block (forms.Return vs) = ap (λ (ts : Terms). Some ts) (terms_plain schema (unwrap_or (types_of schema block (forms.Return vs)) []) vs)
reply_plain schema block s = refl

-- the result of each statement is kept, and so is the list of results
kept_one : {X : Type 0} (f : X → X) (o : Option X) (xs : List X) → map f (cons_option o xs) ≡ cons_option (option_map f o) (map f xs)
kept_one f None xs = refl
kept_one f (Some x) xs = refl

kept_all : {S X : Type 0} (f : X → X) (read : S → Option X) → ((s : S) → option_map f (read s) ≡ read s) → (statements : List S) → map f (filter_map read statements) ≡ filter_map read statements
kept_all f read kept [] = refl
kept_all f read kept (s ∷ statements) = kept_one f (read s) (filter_map read statements) ∙ ap₂ (λ o xs. cons_option o xs) (kept s) (kept_all f read kept statements)

first_kept : {X : Type 0} (f : X → X) (xs : List X) → option_map f (first_of xs) ≡ first_of (map f xs)
first_kept f [] = refl
first_kept f (x ∷ xs) = refl

-- Blocks

block_plain : (schema : Schema) (block : BlockContext) (statements : List Statement) → plain_block (block_of schema block statements) ≡ block_of schema block statements
block_plain schema block statements =
    let actions = kept_all plain_action (action_of schema block) (action_plain schema block) statements in
    let reply = first_kept plain_terms (filter_map (reply_of schema block) statements) ∙ ap first_of (kept_all plain_terms (reply_of schema block) (reply_plain schema block) statements) in
    λ i. record { side = side_of block; handles = option_map (λ message. message.number) (handled_in block); actions = actions i; reply = reply i }

opened_plain : (schema : Schema) (rest : List LineReading) (o : Option BlockContext) → map plain_block (option_map_or (λ block. block_of schema block (inside rest) ∷ []) o []) ≡ option_map_or (λ block. block_of schema block (inside rest) ∷ []) o []
opened_plain schema rest None = refl
opened_plain schema rest (Some block) = ap (λ (b : Block). b ∷ []) (block_plain schema block (inside rest))

pub blocks_plain : (schema : Schema) (readings : List LineReading) → map plain_block (blocks_of schema readings) ≡ blocks_of schema readings
blocks_plain schema [] = refl
blocks_plain schema (line.Statement held ∷ rest) =
    map-append plain_block (blocks_at schema held.value rest) (blocks_of schema rest)
    ∙ ap₂ (λ bs more. bs ++ more) (opened_plain schema rest (standing_of schema held.value)) (blocks_plain schema rest)
blocks_plain schema (x ∷ rest) = blocks_plain schema rest
