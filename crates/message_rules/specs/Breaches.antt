-- The rules that a single message can break, one for each breach. The code goes through them.
use Rattle.std.specs.Prelude.{◌≡◌, ◌↔◌, ℕ, List, IsTrue}
use Rattle.std.specs.Cmp.Lexicographic.{pointwise}
use Rattle.std.specs.HashSet.{HashSet, contains}
use Rattle.std.specs.List.{Any}
use Rattle.std.specs.Prelude.{Bool, nat_eq}
use Rattle.std.specs.Borrow.{Bor}
use Rattle.ipdl_base.specs.declared.finding.Finding.{Finding}
use Rattle.ipdl_base.specs.declared.finding.Rule.{Rule}
use Rattle.ipdl_base.specs.declared.finding.TheConstants.Rule as rule
use Rattle.ipdl_syntax.specs.declared.tree.MessageDecl.{MessageDecl}
use Rattle.ipdl_syntax.specs.declared.tree.NameAt.{NameAt}
use Rattle.ipdl_syntax.specs.declared.tree.ProtocolDecl.{ProtocolDecl}
use Rattle.message_rules.specs.declared.message.MessageBreach.{MessageBreach}
use Rattle.message_rules.specs.declared.message.MessageBreach.TheVariants.{TooMany, PlainSyncToChild, AsyncInsideSync, InsideCpowToChild, Stronger, BadCompress, BadMaker, BadLazy}
use Rattle.message_rules.specs.Messages.{IsTooMany, IsPlainSyncToChild, IsAsyncInsideSync, IsInsideCpowToChild, IsStronger, IsBadCompress, IsBadLazy, IsBadMaker}

-- the rule that is broken
abbrev pub rule_of : MessageBreach → Rule
rule_of TooMany = rule.TOO_MANY_MESSAGES
rule_of PlainSyncToChild = rule.PLAIN_SYNC_TO_CHILD
rule_of AsyncInsideSync = rule.INSIDE_SYNC_NOT_SYNC
rule_of InsideCpowToChild = rule.INSIDE_CPOW_TO_CHILD
rule_of Stronger = rule.STRONGER_MESSAGE
rule_of BadCompress = rule.BAD_COMPRESS
rule_of BadMaker = rule.BAD_CONSTRUCTOR
rule_of BadLazy = rule.BAD_LAZY_SEND

-- the message at an index of a protocol breaks this rule
abbrev pub Breaks : MessageBreach → ProtocolDecl → ℕ → MessageDecl → Type 0
Breaks TooMany p index m = IsTooMany index
Breaks PlainSyncToChild p index m = IsPlainSyncToChild m
Breaks AsyncInsideSync p index m = IsAsyncInsideSync m
Breaks InsideCpowToChild p index m = IsInsideCpowToChild m
Breaks Stronger p index m = IsStronger p m
Breaks BadCompress p index m = IsBadCompress p m
Breaks BadMaker p index m = IsBadMaker p m
Breaks BadLazy p index m = IsBadLazy p m

-- the finding is that of this breach by the message
pub record IsFoundBy (p : ProtocolDecl) (f : Finding) (index : ℕ) (m : MessageDecl) (b : MessageBreach) : Type 0 where
  pub rule : rule_of b ≡ f.rule
  pub breaks : Breaks b p index m
  pub here : m.place ≡ f.place

-- the finding is that of some breach by the message
abbrev pub IsFoundOf : ProtocolDecl → Finding → ℕ → MessageDecl → Type 0
IsFoundOf p f index m = (b : MessageBreach) × IsFoundBy p f index m b

-- Names after `manages`, as a set.

abbrev pub same_name : Bor (List ℕ) → Bor (List ℕ) → Bool
same_name x y = pointwise nat_eq x.now y.now

-- the set has exactly these names
pub record HasNames {S : Type 0} (set : HashSet (Bor (List ℕ)) S) (names : List NameAt) : Type 0 where
  pub exact : (q : Bor (List ℕ)) → IsTrue (contains same_name set q) ↔ Any (λ n. n.name ≡ q.now) names
