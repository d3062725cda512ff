-- What each form of the machine takes, in terms of the grammar.
use Rattle.std.proofs.Common.{◌≡◌, ◌≢◌, ℕ, ◌≤◌, Bool, true, false, List, [], ◌∷◌, ◌++◌, length, Option, Some, None, codes, refl, sym, subst}
use Rattle.ipdl_base.specs.declared.finding.Place.{Place}
use Rattle.ipdl_base.specs.declared.kinds.Semantics.{Semantics}
use Rattle.ipdl_base.specs.declared.token.Token.{Token}
use Rattle.ipdl_base.specs.declared.token.TokenKind.TheVariants as kind
use Rattle.ipdl_syntax.specs.declared.tree.Attribute.{Attribute}
use Rattle.ipdl_syntax.specs.declared.tree.Base.{Base}
use Rattle.ipdl_syntax.specs.declared.tree.IncludeKind.{IncludeKind}
use Rattle.ipdl_syntax.specs.declared.tree.MessageDecl.{MessageDecl}
use Rattle.ipdl_syntax.specs.declared.tree.NameAt.{NameAt}
use Rattle.ipdl_syntax.specs.declared.tree.Param.{Param}
use Rattle.ipdl_syntax.specs.declared.tree.Suffix.{Suffix}
use Rattle.ipdl_syntax.specs.declared.tree.TypeSpec.{TypeSpec}
use Rattle.ipdl_syntax.specs.Parts.{Part, nothing, ◌⨾◌, either, token, mark, reserved, identifier, at}
use Rattle.ipdl_syntax.specs.Grammar.{words, qualified, argument, value, attribute, more_attributes, suffixes, type_round, base, param, more_params, params, returns, semantics_word, messages, MessageSection, sections, Management, more_managers, managements, fields, components, foreign_name, included}
use Rattle.tree_reader.specs.Ending.{Ending}
use Rattle.tree_reader.specs.Ending as ending
use Rattle.tree_reader.specs.Symbols.{symbol}
use Rattle.tree_reader.specs.Machine.{Form, proper, take, any_word, argument_name, argument_words, suffixed, named, based, typed, attributed, after_attribute, more_attributed, one_param, parameters, more_parameters, after_parameters, one_message, messaged, managing, more_managing, fielded, componented, using_named, using_word, after_using, include_named, production, following, provided_that}
-- the ends of declarations
pub use Rattle.tree_reader.specs.Reading.{closed, from_file}

abbrev pub ending_part : Ending → Part
ending_part ending.Name = token (λ t. t.kind ≡ kind.Word)
ending_part ending.Semicolon = mark (codes ";")
ending_part ending.Greater = mark (codes ">")

-- a message after its attributes
abbrev pub bare_message : Semantics → List ℕ → Place → List Param → Option (List Param) → Part
bare_message how name place ps answers = reserved (semantics_word how) ⨾ identifier name place ⨾ mark (codes "(") ⨾ params ps ⨾ mark (codes ")") ⨾ returns answers ⨾ mark (codes ";")

-- what a form takes
abbrev pub Takes : Form → Part
Takes (take s) from to = token (λ t. symbol t ≡ proper s) from to
Takes any_word from to = token (λ t. t.kind ≢ kind.Mark) from to
Takes argument_name from to = (name : List ℕ) × (qualified name ⨾ mark (codes ">")) from to
Takes argument_words from to = (ws : List (List ℕ)) × (words ws ⨾ mark (codes ">")) from to
Takes (suffixed n e) from to = (after : List Suffix) × (length after ≤ n) × (suffixes after ⨾ ending_part e) from to
Takes (named e) from to = (ws : List (List ℕ)) × (inner : Option (List ℕ)) × (after : List Suffix) × (length after ≤ 4) × (words ws ⨾ argument inner ⨾ suffixes after ⨾ ending_part e) from to
Takes (based room e) from to = (b : Base) × (after : List Suffix) × (place : Place) × (length after ≤ 4) × (at place (base room b) ⨾ suffixes after ⨾ ending_part e) from to
Takes (typed room e) from to = (nullable : Bool) × (b : Base) × (after : List Suffix) × (place : Place) × (type_round nullable (base room b) after place ⨾ ending_part e) from to
Takes attributed from to = (a : Attribute) × (rest : List Attribute) × (attribute a ⨾ more_attributes rest ⨾ mark (codes "]")) from to
Takes after_attribute from to = (v : Option (List ℕ)) × (rest : List Attribute) × (value v ⨾ more_attributes rest ⨾ mark (codes "]")) from to
Takes more_attributed from to = (rest : List Attribute) × (more_attributes rest ⨾ mark (codes "]")) from to
Takes one_param from to = (p : Param) × param p from to
Takes parameters from to = (ps : List Param) × (params ps ⨾ mark (codes ")")) from to
Takes more_parameters from to = (ps : List Param) × (more_params ps ⨾ mark (codes ")")) from to
Takes after_parameters from to = (answers : Option (List Param)) × (returns answers ⨾ mark (codes ";")) from to
Takes one_message from to = (how : Semantics) × (name : List ℕ) × (place : Place) × (ps : List Param) × (answers : Option (List Param)) × bare_message how name place ps answers from to
Takes (messaged d) from to = (ms : List MessageDecl) × (ss : List MessageSection) × (messages d ms ⨾ sections ss ⨾ closed) from to
Takes managing from to = (ms : List Management) × (ss : List MessageSection) × (managements ms ⨾ sections ss ⨾ closed) from to
Takes more_managing from to = (ns : List NameAt) × (more_managers ns ⨾ mark (codes ";")) from to
Takes fielded from to = (fs : List Param) × (fields fs ⨾ closed) from to
Takes componented from to = (cs : List TypeSpec) × (components cs ⨾ closed) from to
Takes using_named from to = (full : List ℕ) × (place : Place) × (either nothing (either (reserved (codes "class")) (reserved (codes "struct"))) ⨾ at place (foreign_name full) ⨾ from_file) from to
Takes using_word from to = (full : List ℕ) × (place : Place) × (at place (foreign_name full) ⨾ from_file) from to
Takes after_using from to = (ws : List (List ℕ)) × (inner : Option (List ℕ)) × (words ws ⨾ argument inner ⨾ from_file) from to
Takes include_named from to = (what : IncludeKind) × (name : List ℕ) × (place : Place) × (included what name place ⨾ mark (codes ";")) from to

-- what forms take, one after the other
abbrev pub TakeAll : List Form → Part
TakeAll [] from to = from ≡ to
TakeAll (f ∷ fs) from to = (middle : List Token) × Takes f from middle × TakeAll fs middle to

-- what is taken after a first token
abbrev pub Following : Option (List Form) → Part
Following None from to = ⊥
Following (Some forms) from to = TakeAll forms from to

-- Laws of these

pub together : (one other : List Form) (from middle to : List Token) → TakeAll one from middle → TakeAll other middle to → TakeAll (one ++ other) from to
together [] other from middle to e d = subst (λ (x : List Token). TakeAll other x to) (sym e) d
together (f ∷ fs) other from middle to (m, here, more) d = (m, here, together fs other m middle to more d)

pub apart : (one other : List Form) (from to : List Token) → TakeAll (one ++ other) from to → (middle : List Token) × TakeAll one from middle × TakeAll other middle to
apart [] other from to d = (from, refl, d)
apart (f ∷ fs) other from to (m, here, more) = let r = apart fs other m to more in (r.0, (m, here, r.1), r.2)

pub after_apart : (o : Option (List Form)) (more : List Form) (from to : List Token) → Following (following o more) from to → (middle : List Token) × Following o from middle × TakeAll more middle to
after_apart None more from to d = absurd d
after_apart (Some forms) more from to d = apart forms more from to d

pub after_together : (o : Option (List Form)) (more : List Form) (from middle to : List Token) → Following o from middle → TakeAll more middle to → Following (following o more) from to
after_together None more from middle to d r = absurd d
after_together (Some forms) more from middle to d r = together forms more from middle to d r

pub was_allowed : (b : Bool) (forms : List Form) (from to : List Token) → Following (provided_that b forms) from to → (b ≡ true) × TakeAll forms from to
was_allowed true forms from to d = (refl, d)
was_allowed false forms from to d = absurd d

pub allowed : (b : Bool) (forms : List Form) (from to : List Token) → b ≡ true → TakeAll forms from to → Following (provided_that b forms) from to
allowed true forms from to e d = d
allowed false forms from to e d = absurd (cc)

-- where a form takes tokens, the first of them has a production, and the rest is taken by what that is
abbrev pub Opened : Form → Part
Opened f from to = (t : Token) × (rest : List Token) × (from ≡ t ∷ rest) × Following (production f (symbol t)) rest to
