-- A protocol whose rules are tested, and the names of its messages. These serve the code alone.
use Rattle.std.specs.Prelude.{◌≡◌, ◌↔◌, ℕ, Bool, List, Some, IsTrue, nat_eq}
use Rattle.std.specs.Cmp.Lexicographic.{pointwise}
use Rattle.std.specs.HashSet.{HashSet, contains}
use Rattle.std.specs.List.{Any}
use denote.Ref.{Bor}
use Rattle.ipdl_syntax.specs.declared.program.Entry.{Entry}
use Rattle.ipdl_syntax.specs.declared.tree.MessageDecl.{MessageDecl}
use Rattle.name_table.specs.Decls.{protocol_of}
use Rattle.manager_rules.specs.declared.subject.Subject.{Subject}

-- the names are the same
abbrev pub same_name : Bor (List ℕ) → Bor (List ℕ) → Bool
same_name x y = pointwise nat_eq x.now y.now

-- the set has exactly the names of these messages
pub record HasNames {S : Type 0} (messages : List MessageDecl) (set : HashSet (Bor (List ℕ)) S) : Type 0 where
  pub exact : (name : Bor (List ℕ)) → IsTrue (contains same_name set name) ↔ Any (λ m. m.name ≡ name.now) messages

-- the protocol is that of its file, with the names of its messages
pub record IsSubject (program : List Entry) (subject : Subject) : Type 0 where
  pub there : protocol_of program subject.file ≡ Some subject.protocol.now
  pub messages : HasNames subject.protocol.now.messages subject.messages
