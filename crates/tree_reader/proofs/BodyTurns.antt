-- How the body of a protocol is read, and how the machine goes over it.
use Rattle.std.proofs.Common.{◌≡◌, ◌≢◌, ◌≤◌, ◌<◌, false, List, [], ◌∷◌, ◌++◌, length, Some, None, refl, sym, ap, subst, ◌∙◌, arith, append_assoc}
use Rattle.std.specs.Prelude.{codes}
use Rattle.std.specs.List.{flat_map}
use Rattle.std.proofs.lemmas.List.{append-nil}
use Rattle.std.proofs.lemmas.Grind.{flat_map-append}
use Rattle.ipdl_base.specs.declared.finding.Place.{Place}
use Rattle.ipdl_base.specs.declared.token.Token.{Token}
use Rattle.ipdl_base.specs.declared.kinds.Direction.{Direction}
use Rattle.ipdl_base.specs.declared.kinds.Direction.TheVariants as direction
use Rattle.ipdl_syntax.specs.declared.tree.MessageDecl.{MessageDecl}
use Rattle.ipdl_syntax.specs.declared.tree.NameAt.{NameAt}
use Rattle.ipdl_syntax.specs.Parts.{◌⨾◌, mark, reserved, identifier}
use Rattle.ipdl_syntax.specs.Grammar.{message, messages, MessageSection, sections, direction_word, Management, managed_by, manages, more_managers, managements, managers_of, managed_of}
use Rattle.tree_reader.specs.declared.symbol.Symbol.{Symbol}
use Rattle.tree_reader.specs.declared.symbol.Symbol.TheVariants.{Word, OpenBracket, Async, Sync, Parent, Child, Both, CloseBrace, Colon, Semicolon, Manager, Manages, Or}
use Rattle.tree_reader.specs.Symbols.{first_symbol}
use Rattle.tree_reader.specs.Machine.{Form, take, messaged, managing, more_managing, following, production, section_begins}
use Rattle.tree_reader.specs.Reading.{Turns, IsNext, IsNextAt, begins_message, direction_of, IsSectioned, AddsMessages, AreSections, AddsManagers, AddsStatements, IsBody}
use Rattle.tree_reader.proofs.Turns.{split_turn, turn, turns, same_turn, is_spelled, fewer_of}
use Rattle.tree_reader.proofs.ParamTurns.{moved, then_past}

-- The messages of a section

-- the messages so far, with any that follow from here
abbrev pub MessagesGoOn : Direction → List MessageDecl → List MessageDecl → List Token → List Token → Type 0
MessagesGoOn d old so_far start from = (more : List MessageDecl) (to : List Token) → messages d more from to → AddsMessages d old (so_far ++ more) start to

-- the messages so far are read, and after them more may come
pub record ReadMessages (d : Direction) (old so_far : List MessageDecl) (start from : List Token) : Type 0 where
  pub read : MessagesGoOn d old so_far start from
  pub turns : Turns (messaged d ∷ []) start (messaged d ∷ []) from
  pub fewer : length from ≤ length start

-- one more message
pub more_messages : (d : Direction) (m : MessageDecl) (old so_far all : List MessageDecl) (start from to : List Token) → all ≡ so_far ++ m ∷ [] → ReadMessages d old so_far start from → message d m from to → Turns (messaged d ∷ []) from (messaged d ∷ []) to → length to < length from → ReadMessages d old all start to
more_messages d m old so_far all start from to is before one turn less = record {
  read = subst (λ (x : List MessageDecl). MessagesGoOn d old x start to) (sym is) (λ more end rest. rw append_assoc (before.read (m ∷ more) end (to, one, rest)));
  turns = turns (messaged d ∷ []) (messaged d ∷ []) (messaged d ∷ []) start from to before.turns turn;
  fewer = let l = before.fewer in omega arith;
}

-- all of them
pub all_messages : (d : Direction) (old all : List MessageDecl) (start from : List Token) → MessagesGoOn d old all start from → AddsMessages d old all start from
all_messages d old all start from before = subst (λ (x : List MessageDecl). AddsMessages d old x start from) (append-nil all) (before [] from refl)

-- Sections

end_of_messages : (d : Direction) (s : Symbol) → begins_message s ≡ false → production (messaged d) s ≡ section_begins s
unfolding production
end_of_messages d OpenBracket is = absurd (cc)
end_of_messages d Async is = absurd (cc)
end_of_messages d Sync is = absurd (cc)
end_of_messages d _ is = refl

-- after the messages of a section another may come, or the end of the protocol
pub sectioned : (d : Direction) (from : List Token) → begins_message (first_symbol from) ≡ false → IsSectioned (messaged d) from
sectioned d from is = end_of_messages d (first_symbol from) is

section_table : (s : Symbol) (d : Direction) → direction_of s ≡ Some d → section_begins s ≡ Some (take Colon ∷ messaged d ∷ [])
section_table Parent d is = let e : direction.Parent ≡ d = cc in ap (λ (x : Direction). Some (take Colon ∷ messaged x ∷ [])) e
section_table Child d is = let e : direction.Child ≡ d = cc in ap (λ (x : Direction). Some (take Colon ∷ messaged x ∷ [])) e
section_table Both d is = let e : direction.Both ≡ d = cc in ap (λ (x : Direction). Some (take Colon ∷ messaged x ∷ [])) e
section_table _ d is = absurd (cc)

-- where no section begins, the end of the protocol is expected
close_table : (s : Symbol) → direction_of s ≡ None → section_begins s ≡ following (production (take CloseBrace) s) (take Semicolon ∷ [])
unfolding production
close_table Parent is = absurd (cc)
close_table Child is = absurd (cc)
close_table Both is = absurd (cc)
close_table _ is = refl

pub close_turn : (f : Form) (from : List Token) → IsSectioned f from → direction_of (first_symbol from) ≡ None → Turns (f ∷ []) from (take CloseBrace ∷ take Semicolon ∷ []) from
close_turn f from may is = split_turn f (take CloseBrace) (take Semicolon ∷ []) from (may ∙ close_table (first_symbol from) is)

-- the word of a section
word_of : (s : Symbol) (d : Direction) (from to : List Token) → direction_of s ≡ Some d → IsNext s from to → reserved (direction_word d) from to
word_of Parent d from to is here = let e : direction.Parent ≡ d = cc in subst (λ (x : Direction). reserved (direction_word x) from to) e (is_spelled Parent from to here)
word_of Child d from to is here = let e : direction.Child ≡ d = cc in subst (λ (x : Direction). reserved (direction_word x) from to) e (is_spelled Child from to here)
word_of Both d from to is here = let e : direction.Both ≡ d = cc in subst (λ (x : Direction). reserved (direction_word x) from to) e (is_spelled Both from to here)
word_of _ d from to is here = absurd (cc)

-- the next token at its place
placed : (s : Symbol) (place : Place) (from to : List Token) → IsNextAt s place from to → IsNext s from to
placed s place from to (t, here, (is, there)) = (t, here, is)

-- the form that is expected after the sections so far
pub record Goes (f : Form) (start from : List Token) : Type 0 where
  pub form : Form
  pub may : IsSectioned form from
  pub turns : Turns (f ∷ []) start (form ∷ []) from

-- the sections so far, with any that follow from here
abbrev pub SectionsGoOn : List MessageDecl → List Token → List Token → Type 0
SectionsGoOn so_far start from = (more : List MessageSection) (to : List Token) → sections more from to → AreSections (so_far ++ flat_map (λ s. s.messages) more) start to

-- the sections so far are read, and after them more may come
pub record ReadSections (so_far : List MessageDecl) (start from : List Token) : Type 0 where
  pub read : SectionsGoOn so_far start from
  pub goes : (f : Form) → IsSectioned f start → Goes f start from
  pub fewer : length from ≤ length start

-- after the word of one more section
pub section_word : (d : Direction) (place : Place) (f : Form) (start from one : List Token) → direction_of (first_symbol from) ≡ Some d → Goes f start from → IsNextAt (first_symbol from) place from one → Turns (f ∷ []) start (take Colon ∷ messaged d ∷ []) one
section_word d place f start from one is before here =
    turns (f ∷ []) (before.form ∷ []) (take Colon ∷ messaged d ∷ []) start from one before.turns
    (turn before.form (first_symbol from) (take Colon ∷ messaged d ∷ []) from one (placed (first_symbol from) place from one here) (before.may ∙ section_table (first_symbol from) d is))

-- after its colon
pub section_colon : (d : Direction) (place : Place) (f : Form) (start from one two : List Token) → direction_of (first_symbol from) ≡ Some d → Goes f start from → IsNextAt (first_symbol from) place from one → Turns (take Colon ∷ []) one [] two → Turns (f ∷ []) start (messaged d ∷ []) two
section_colon d place f start from one two is before here colon =
    then_past (f ∷ []) (take Colon) (messaged d ∷ []) start one two (section_word d place f start from one is before here) colon

section_adds : (d : Direction) (so_far all ms : List MessageDecl) (start from one two to : List Token) → all ≡ so_far ++ ms → SectionsGoOn so_far start from → reserved (direction_word d) from one → mark (codes ":") one two → messages d ms two to → SectionsGoOn all start to
section_adds d so_far all ms start from one two to is before word colon inner =
    subst (λ (x : List MessageDecl). SectionsGoOn x start to) (sym is)
    (λ more end rest. rw append_assoc (before ((record { direction = d; messages = ms }) ∷ more) end (to, (one, word, (two, colon, inner)), rest)))

-- one more section
pub more_sections : (d : Direction) (place : Place) (so_far all : List MessageDecl) (start from one two to : List Token) → direction_of (first_symbol from) ≡ Some d → ReadSections so_far start from → IsNextAt (first_symbol from) place from one → mark (codes ":") one two → Turns (take Colon ∷ []) one [] two → AddsMessages d so_far all two to → begins_message (first_symbol to) ≡ false → Turns (messaged d ∷ []) two (messaged d ∷ []) to → length two < length one → length to ≤ length two → ReadSections all start to
more_sections d place so_far all start from one two to is before here colon colon_turn adds none inner_turn less fewer = record {
  read = section_adds d so_far all adds.0 start from one two to adds.1 before.read (word_of (first_symbol from) d from one is (placed (first_symbol from) place from one here)) colon adds.2;
  goes = λ f may. record {
    form = messaged d;
    may = sectioned d to none;
    turns = turns (f ∷ []) (messaged d ∷ []) (messaged d ∷ []) start two to (section_colon d place f start from one two is (before.goes f may) here colon_turn) inner_turn;
  };
  fewer = let l1 = before.fewer in let l2 = fewer_of (first_symbol from) from one (placed (first_symbol from) place from one here) in omega arith;
}

-- all of them
pub all_sections : (all : List MessageDecl) (start from : List Token) → SectionsGoOn all start from → AreSections all start from
all_sections all start from before = subst (λ (x : List MessageDecl). AreSections x start from) (append-nil all) (before [] from refl)

-- before the end of the protocol
pub sections_close : (f : Form) (start from : List Token) → Goes f start from → direction_of (first_symbol from) ≡ None → Turns (f ∷ []) start (take CloseBrace ∷ take Semicolon ∷ []) from
sections_close f start from before is =
    turns (f ∷ []) (before.form ∷ []) (take CloseBrace ∷ take Semicolon ∷ []) start from from before.turns (close_turn before.form from before.may is)

-- Managers

or_table : production more_managing Or ≡ Some (take Word ∷ more_managing ∷ [])
unfolding production
or_table = refl

last_table : (s : Symbol) → s ≢ Or → production more_managing s ≡ production (take Semicolon) s
unfolding production
last_table Or n = absurd (n refl)
last_table _ n = refl

-- the managers so far, with any that follow from here
abbrev pub ManagersGoOn : List NameAt → List NameAt → List Token → List Token → Type 0
ManagersGoOn old so_far start from = (more : List NameAt) (to : List Token) → (more_managers more ⨾ mark (codes ";")) from to → AddsManagers old (so_far ++ more) start to

-- the managers so far are read, and after them more may come
pub record ReadManagers (old so_far : List NameAt) (start from : List Token) : Type 0 where
  pub read : ManagersGoOn old so_far start from
  pub turns : Turns (more_managing ∷ []) start (more_managing ∷ []) from
  pub fewer : length from ≤ length start

-- after the `or` of one more
pub managers_or : (old so_far : List NameAt) (start from one : List Token) → ReadManagers old so_far start from → IsNext Or from one → Turns (more_managing ∷ []) start (take Word ∷ more_managing ∷ []) one
managers_or old so_far start from one before here =
    turns (more_managing ∷ []) (more_managing ∷ []) (take Word ∷ more_managing ∷ []) start from one before.turns (turn more_managing Or (take Word ∷ more_managing ∷ []) from one here or_table)

managers_go : (n : NameAt) (old so_far : List NameAt) (start from one two : List Token) → ManagersGoOn old so_far start from → reserved (codes "or") from one → identifier n.name n.place one two → ManagersGoOn old (so_far ++ n ∷ []) start two
managers_go n old so_far start from one two before or word = λ more to (between, names, close). rw append_assoc (before (n ∷ more) to (between, (one, or, (two, word, names)), close))

-- one more manager
pub managers_add : (n : NameAt) (old so_far all : List NameAt) (start from one two : List Token) → all ≡ so_far ++ n ∷ [] → ReadManagers old so_far start from → IsNext Or from one → identifier n.name n.place one two → Turns (take Word ∷ []) one [] two → length two < length one → ReadManagers old all start two
managers_add n old so_far all start from one two is before here word turn less = record {
  read = subst (λ (x : List NameAt). ManagersGoOn old x start two) (sym is) (managers_go n old so_far start from one two before.read (is_spelled Or from one here) word);
  turns = then_past (more_managing ∷ []) (take Word) (more_managing ∷ []) start one two (managers_or old so_far start from one before here) turn;
  fewer = let l1 = before.fewer in let l2 = fewer_of Or from one here in omega arith;
}

-- before the semicolon
pub managers_close : (old so_far : List NameAt) (start from middle : List Token) → ReadManagers old so_far start from → (first_symbol from ≢ Or) × (middle ≡ from) → Turns (more_managing ∷ []) start (take Semicolon ∷ []) middle
managers_close old so_far start from middle before kept =
    turns (more_managing ∷ []) (more_managing ∷ []) (take Semicolon ∷ []) start from middle before.turns
    (moved (more_managing ∷ []) (take Semicolon ∷ []) from middle kept.1 (same_turn more_managing (take Semicolon) from (last_table (first_symbol from) kept.0)))

-- all of them
pub all_managers : (old all : List NameAt) (start from middle to : List Token) → ManagersGoOn old all start from → middle ≡ from → mark (codes ";") middle to → AddsManagers old all start to
all_managers old all start from middle to before same close =
    subst (λ (x : List NameAt). AddsManagers old x start to) (append-nil all) (before [] to (from, refl, subst (λ (x : List Token). mark (codes ";") x to) same close))

-- Statements

manager_table : production managing Manager ≡ Some (take Word ∷ more_managing ∷ managing ∷ [])
unfolding production
manager_table = refl

manages_table : production managing Manages ≡ Some (take Word ∷ take Semicolon ∷ managing ∷ [])
unfolding production
manages_table = refl

neither_table : (s : Symbol) → s ≢ Manager → s ≢ Manages → production managing s ≡ section_begins s
unfolding production
neither_table Manager n m = absurd (n refl)
neither_table Manages n m = absurd (m refl)
neither_table _ n m = refl

-- managers are named
pub manager_turn : (from to : List Token) → IsNext Manager from to → Turns (managing ∷ []) from (take Word ∷ more_managing ∷ managing ∷ []) to
manager_turn from to here = turn managing Manager (take Word ∷ more_managing ∷ managing ∷ []) from to here manager_table

-- a managed protocol is named
pub manages_turn : (from middle to : List Token) → middle ≡ from → IsNext Manages middle to → Turns (managing ∷ []) from (take Word ∷ take Semicolon ∷ managing ∷ []) to
manages_turn from middle to same here =
    turn managing Manages (take Word ∷ take Semicolon ∷ managing ∷ []) from to (subst (λ (x : List Token). IsNext Manages x to) same here) manages_table

-- no statement is next
pub no_statement : (from one two : List Token) → (first_symbol from ≢ Manager) × (one ≡ from) → (first_symbol one ≢ Manages) × (two ≡ one) → IsSectioned managing two
no_statement from one two no_manager no_manages =
    let same : two ≡ from = no_manages.1 ∙ no_manager.1 in
    subst (λ (x : List Token). IsSectioned managing x) (sym same)
    (neither_table (first_symbol from) no_manager.0 (subst (λ (x : List Token). first_symbol x ≢ Manages) no_manager.1 no_manages.0))

-- managers are read
pub managers_added : (n : NameAt) (old first new managed : List NameAt) (from one two to : List Token) → first ≡ old ++ n ∷ [] → IsNext Manager from one → identifier n.name n.place one two → AddsManagers first new two to → AddsStatements old new managed managed from to
managers_added n old first new managed from one two to is here word adds = record {
  all = managed_by n adds.0 ∷ [];
  read = (to, (one, is_spelled Manager from one here, (two, word, adds.2)), refl);
  managers = adds.1 ∙ ap (λ (x : List NameAt). x ++ adds.0) is ∙ append_assoc old (n ∷ []) adds.0 ∙ ap (λ (x : List NameAt). old ++ x) (sym (append-nil (n ∷ adds.0)));
  managed = sym (append-nil managed);
}

-- a managed protocol is read
pub managed_added : (n : NameAt) (managers old new : List NameAt) (from middle one two to : List Token) → new ≡ old ++ n ∷ [] → middle ≡ from → IsNext Manages middle one → identifier n.name n.place one two → mark (codes ";") two to → AddsStatements managers managers old new from to
managed_added n managers old new from middle one two to is same here word close = record {
  all = manages n ∷ [];
  read = (to, (one, is_spelled Manages from one (subst (λ (x : List Token). IsNext Manages x one) same here), (two, word, close)), refl);
  managers = sym (append-nil managers);
  managed = is;
}

-- The body

-- statements and more of them
statements_join : (xs ys : List Management) (from middle to : List Token) → managements xs from middle → managements ys middle to → managements (xs ++ ys) from to
statements_join [] ys from middle to one two = subst (λ (x : List Token). managements ys x to) (sym one) two
statements_join (x ∷ xs) ys from middle to (between, first, rest) two = (between, first, statements_join xs ys between middle to rest two)

-- names that two runs of statements add
names_join : (names_of : Management → List NameAt) (xs ys : List Management) (old so_far new : List NameAt) → so_far ≡ old ++ flat_map names_of xs → new ≡ so_far ++ flat_map names_of ys → new ≡ old ++ flat_map names_of (xs ++ ys)
names_join names_of xs ys old so_far new one two =
    two ∙ ap (λ (x : List NameAt). x ++ flat_map names_of ys) one ∙ append_assoc old (flat_map names_of xs) (flat_map names_of ys)
    ∙ ap (λ (x : List NameAt). old ++ x) (sym (flat_map-append names_of xs ys))

added_join : (m0 m1 m2 g0 g1 g2 : List NameAt) (from middle to : List Token) → AddsStatements m0 m1 g0 g1 from middle → AddsStatements m1 m2 g1 g2 middle to → AddsStatements m0 m2 g0 g2 from to
added_join m0 m1 m2 g0 g1 g2 from middle to one two = record {
  all = one.all ++ two.all;
  read = statements_join one.all two.all from middle to one.read two.read;
  managers = names_join managers_of one.all two.all m0 m1 m2 one.managers two.managers;
  managed = names_join managed_of one.all two.all g0 g1 g2 one.managed two.managed;
}

-- the statements so far are read, and after them more may come
pub record ReadStatements (managers managed : List NameAt) (start from : List Token) : Type 0 where
  pub read : AddsStatements [] managers [] managed start from
  pub turns : Turns (managing ∷ []) start (managing ∷ []) from
  pub fewer : length from ≤ length start

-- one more statement, or no statement
pub more_statements : (m1 m2 g1 g2 : List NameAt) (start from to : List Token) → ReadStatements m1 g1 start from → AddsStatements m1 m2 g1 g2 from to → Turns (managing ∷ []) from (managing ∷ []) to → length to ≤ length from → ReadStatements m2 g2 start to
more_statements m1 m2 g1 g2 start from to before one turn fewer = record {
  read = added_join [] m1 m2 [] g1 g2 start from to before.read one;
  turns = turns (managing ∷ []) (managing ∷ []) (managing ∷ []) start from to before.turns turn;
  fewer = let l = before.fewer in omega arith;
}

-- the whole body
pub body_read : (m g m' g' : List NameAt) (all ms : List MessageDecl) (start from a b to : List Token) → m ≡ m' → g ≡ g' → all ≡ ms → ReadStatements m' g' start from → AreSections ms from a → mark (codes "}") a b → mark (codes ";") b to → IsBody m g all start to
body_read m g m' g' all ms start from a b to is_m is_g is_all before parts brace semicolon = record {
  statements = before.read.all;
  parts = parts.0;
  managers_of_them = is_m ∙ before.read.managers;
  managed_of_them = is_g ∙ before.read.managed;
  messages_of_them = is_all ∙ parts.1;
  read = (from, before.read.read, (a, parts.2, (b, brace, semicolon)));
}
