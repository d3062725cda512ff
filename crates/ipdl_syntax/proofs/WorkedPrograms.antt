-- A worked program: a protocol file that includes a header. Variants of it that are wrong in one part are not programs.
use Rattle.std.proofs.Common.{◌≡◌, ◌≢◌, ℕ, zero, suc, false, List, [], ◌∷◌, Option, Some, None, slice_get, get_or, codes, refl, ap, subst, arith}
use Rattle.std.specs.List.{AllPairs}
use Rattle.std.proofs.lemmas.List.Elements.{All-from_recursion}
use Rattle.std.proofs.lemmas.List.Kept.{AllPairs-cons}
use Rattle.ipdl_base.specs.declared.finding.Place.{Place}
use Rattle.ipdl_base.specs.declared.kinds.Direction.TheVariants.{Child}
use Rattle.ipdl_base.specs.declared.kinds.Semantics.TheVariants.{Async}
use Rattle.ipdl_syntax.specs.declared.program.Entry.{Entry}
use Rattle.ipdl_syntax.specs.declared.tree.Base.{Named}
use Rattle.ipdl_syntax.specs.declared.tree.FileKind.TheVariants as file
use Rattle.ipdl_syntax.specs.declared.tree.IncludeKind.TheVariants.{Header}
use Rattle.ipdl_syntax.specs.declared.tree.MessageDecl.{MessageDecl}
use Rattle.ipdl_syntax.specs.declared.tree.Param.{Param}
use Rattle.ipdl_syntax.specs.declared.tree.ProtocolDecl.{ProtocolDecl}
use Rattle.ipdl_syntax.specs.declared.tree.Unit.{Unit as FileUnit}
use Rattle.ipdl_syntax.specs.Programs.{IsEntry, IsProgram}
use Rattle.ipdl_syntax.specs.Units.{ParamHasWords, ParamIsIn}

-- a place in the file of this number
abbrev in_file : ℕ → Place
in_file number = record { file = number; line = 1; column = 1 }

-- `N::S n`, in the file of this number
abbrev a_param : ℕ → Param
a_param number = record {
  spec = record { nullable = false; base = Named (codes "N::S") None; suffixes = []; place = in_file number };
  name = codes "n";
  place = in_file number;
  attributes = [];
}

param_words : (number : ℕ) → ParamHasWords (a_param number)
param_words number = record { spec = ((codes "N", codes "S" ∷ [], (refl, (refl, tt)), refl), tt); name = refl }

param_places : (number : ℕ) → ParamIsIn number (a_param number)
param_places number = record { place = refl; spec = record { place = refl; base = tt }; attributes = tt }

-- a message of this name with that parameter, at a place in the file of this number
abbrev a_message : List ℕ → ℕ → MessageDecl
a_message name number = record {
  name = name;
  place = in_file number;
  direction = Child;
  semantics = Async;
  params = a_param 0 ∷ [];
  returns = None;
  attributes = [];
}

-- a protocol with that message
abbrev a_protocol : List ℕ → ℕ → ProtocolDecl
a_protocol name number = record {
  full = codes "N::PA";
  place = in_file 0;
  semantics = Async;
  managers = [];
  manages = [];
  messages = a_message name number ∷ [];
  attributes = [];
}

-- the protocol's file, which includes the header B
abbrev protocol_file : List ℕ → ℕ → ℕ → Entry
protocol_file name number index = record {
  key = codes "PA.ipdl";
  name = codes "dir/PA.ipdl";
  unit = record {
    includes = record { kind = Header; name = codes "B"; place = in_file 0 } ∷ [];
    usings = [];
    structs = [];
    unions = [];
    protocol = Some (a_protocol name number);
  };
  includes = index ∷ [];
}

-- a header with one struct
abbrev a_header : FileUnit
a_header = record {
  includes = [];
  usings = [];
  structs = record { full = codes "N::S"; place = in_file 1; fields = a_param 1 ∷ []; attributes = [] } ∷ [];
  unions = [];
  protocol = None;
}

-- its file, of this key
abbrev header_file : List ℕ → Entry
header_file key = record { key = key; name = codes "B.ipdlh"; unit = a_header; includes = [] }

-- both files, by the header's key, the message's name, the file of its place, and the index of the include
abbrev both_files : List ℕ → List ℕ → ℕ → ℕ → List Entry
both_files key name number index = protocol_file name number index ∷ header_file key ∷ []

abbrev worked : List Entry
worked = both_files (codes "B.ipdlh") (codes "Go") 0 1

first_entry : IsEntry worked 0 (protocol_file (codes "Go") 0 1)
first_entry = record {
  keyed = record { kind = file.Protocol; front = codes "PA"; key = refl; unit = refl };
  words = record {
    includes = (refl, tt);
    structs = tt;
    unions = tt;
    protocol = record {
      full = (codes "N", codes "PA" ∷ [], (refl, (refl, tt)), refl);
      managers = tt;
      manages = tt;
      messages = (record { name = refl; params = (param_words 0, tt); returns = tt }, tt);
    };
  };
  places = record {
    includes = (refl, tt);
    usings = tt;
    structs = tt;
    unions = tt;
    protocol = record {
      place = refl;
      managers = tt;
      manages = tt;
      messages = (record { place = refl; params = (param_places 0, tt); returns = tt; attributes = tt }, tt);
      attributes = tt;
    };
  };
  below = (omega arith, tt);
  includes = refl;
}

second_entry : IsEntry worked 1 (header_file (codes "B.ipdlh"))
second_entry = record {
  keyed = record { kind = file.Header; front = codes "B"; key = refl; unit = refl };
  words = record {
    includes = tt;
    structs = (record { full = (codes "N", codes "S" ∷ [], (refl, (refl, tt)), refl); fields = (param_words 1, tt) }, tt);
    unions = tt;
    protocol = tt;
  };
  places = record {
    includes = tt;
    usings = tt;
    structs = (record { place = refl; fields = (param_places 1, tt); attributes = tt }, tt);
    unions = tt;
    protocol = tt;
  };
  below = tt;
  includes = refl;
}

worked_entries : (index : ℕ) (entry : Entry) → slice_get worked index ≡ Some entry → IsEntry worked index entry
worked_entries zero entry e = let same : protocol_file (codes "Go") 0 1 ≡ entry = cc in subst (IsEntry worked 0) same first_entry
worked_entries (suc zero) entry e = let same : header_file (codes "B.ipdlh") ≡ entry = cc in subst (IsEntry worked 1) same second_entry
worked_entries (suc (suc n)) entry e = absurd (cc)

-- the keys of two files differ
abbrev Differ : Entry → Entry → Type 0
Differ a b = a.key ≢ b.key

no_pairs : AllPairs Differ []
no_pairs i j d before below = absurd (omega arith)

other_keys : AllPairs Differ worked
other_keys =
    let one : Entry = protocol_file (codes "Go") 0 1 in
    let other : Entry = header_file (codes "B.ipdlh") in
    let differ : Differ one other = λ e. let same : ◌≡◌ {A = ℕ} 80 66 = ap (λ (key : List ℕ). get_or key 0 0) e in omega arith in
    AllPairs-cons Differ one (other ∷ []) (All-from_recursion (Differ one) (other ∷ []) (differ, tt)) (AllPairs-cons Differ other [] (All-from_recursion (Differ other) [] tt) no_pairs)

pub is_program : IsProgram worked
is_program = record { few = omega arith; distinct = other_keys; entries = worked_entries }

-- Two files with the same key are not a program.
pub one_key : IsProgram (both_files (codes "PA.ipdl") (codes "Go") 0 1) → ⊥
one_key is = is.distinct 0 1 (header_file (codes "PA.ipdl")) (omega arith) (omega arith) refl

-- Files with a message whose name is not a word are not a program,
pub no_word : IsProgram (both_files (codes "B.ipdlh") (codes "1o") 0 1) → ⊥
no_word is = let name = (is.entries 0 _ refl).words.protocol.messages.0.name in cc

-- nor with a place of another file,
pub another_file : IsProgram (both_files (codes "B.ipdlh") (codes "Go") 1 1) → ⊥
another_file is = let place = (is.entries 0 _ refl).places.protocol.messages.0.place in omega arith

-- nor with an index after the last file.
pub no_such_index : IsProgram (both_files (codes "B.ipdlh") (codes "Go") 0 2) → ⊥
no_such_index is = let below = (is.entries 0 _ refl).below.0 in omega arith

-- the first byte of the first key
abbrev first_byte : List (Option (List ℕ)) → ℕ
first_byte [] = 0
first_byte (None ∷ rest) = 0
first_byte (Some key ∷ rest) = get_or key 0 0

-- The index of a file that the include does not name is wrong too.
pub another_include : IsProgram (both_files (codes "B.ipdlh") (codes "Go") 0 0) → ⊥
another_include is = let same : ◌≡◌ {A = ℕ} 80 66 = ap first_byte (is.entries 0 _ refl).includes in omega arith
