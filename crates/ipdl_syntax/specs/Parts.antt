-- Parts of a text: the tokens from one point in a list of tokens to another.
use Rattle.std.specs.Prelude.{◌≡◌, ℕ, ◌⊎◌, List, ◌∷◌}
use Rattle.ipdl_base.specs.declared.finding.Place.{Place}
use Rattle.ipdl_base.specs.declared.token.Token.{Token}
use Rattle.ipdl_base.specs.declared.token.TokenKind.TheVariants.{Word, Reserved, Quoted, Mark}

-- A part relates the tokens from its beginning on to the tokens that are left after its end.
abbrev pub Part : Type 1
Part = List Token → List Token → Type 0

-- no token
abbrev pub nothing : Part
nothing from to = from ≡ to

infixr 4 ◌⨾◌
-- one part, and then another
abbrev pub ◌⨾◌ : Part → Part → Part
(first ⨾ second) from to = (middle : List Token) × first from middle × second middle to

-- one part or the other
abbrev pub either : Part → Part → Part
either one other from to = one from to ⊎ other from to

-- one token with this property
abbrev pub token : (Token → Type 0) → Part
token IsIt from to = (t : Token) × (from ≡ t ∷ to) × IsIt t

-- a mark
abbrev pub mark : List ℕ → Part
mark text = token (λ t. (t.kind ≡ Mark) × (t.text ≡ text))

-- a reserved word
abbrev pub reserved : List ℕ → Part
reserved text = token (λ t. (t.kind ≡ Reserved) × (t.text ≡ text))

-- a word that is not reserved
abbrev pub word : List ℕ → Part
word name = token (λ t. (t.kind ≡ Word) × (t.text ≡ name))

-- a word that is not reserved, at its place
abbrev pub identifier : List ℕ → Place → Part
identifier name place = token (λ t. (t.kind ≡ Word) × (t.text ≡ name) × (t.place ≡ place))

-- a quoted text, with its quotes, at its place
abbrev pub quoted : List ℕ → Place → Part
quoted text place = token (λ t. (t.kind ≡ Quoted) × (t.text ≡ text) × (t.place ≡ place))

-- a part whose first token is at this place
abbrev pub at : Place → Part → Part
at place part from to = (t : Token) × (rest : List Token) × (from ≡ t ∷ rest) × (t.place ≡ place) × part from to

-- a part under a condition
abbrev pub provided : Type 0 → Part → Part
provided condition part from to = condition × part from to
