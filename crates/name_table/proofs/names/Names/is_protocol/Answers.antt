use Rattle.std.proofs.Common.{◌≡◌, List, ℕ, Bool, true, None, sym, subst, true≢false}
use Rattle.ipdl_syntax.specs.declared.program.Entry.{Entry}
use Rattle.name_table.specs.declared.decl.DeclId.{DeclId}
use Rattle.name_table.specs.declared.decl.DeclId.TheVariants.{Protocol}
use Rattle.name_table.specs.Finds.{IsNameOf, FindsAsProtocol}
use Rattle.name_table.specs.Visible.{Sees}
use Rattle.name_table.proofs.Seeing.{seen_once}
use Rattle.name_table.proofs.names.Names.is_protocol.Goals as goal

protocol_tells : (program : List Entry) (file : ℕ) (text : List ℕ) (d : DeclId) (p : ℕ) (full : List ℕ) (answer : Bool) → d ≡ Protocol p → Sees program file d full
    → ((answer ≡ true) → IsNameOf text None full) × (IsNameOf text None full → answer ≡ true) → ((answer ≡ true) → FindsAsProtocol program file text d) × (FindsAsProtocol program file text d → answer ≡ true)
protocol_tells program file text d p full answer e s n = (
  λ h. subst (FindsAsProtocol program file text) (sym e) (full, subst (λ x. Sees program file x full) e s, n.0 h),
  λ h. let k = subst (FindsAsProtocol program file text) e h in n.1 (subst (IsNameOf text None) (seen_once program file (Protocol p) k.0 full k.1 (subst (λ x. Sees program file x full) e s)) k.2),
)

protocol_unseen : (program : List Entry) (file : ℕ) (text : List ℕ) (d : DeclId) (p : ℕ) → d ≡ Protocol p → ((full : List ℕ) → ¬ Sees program file d full) → ¬ FindsAsProtocol program file text d
protocol_unseen program file text d p e none h = let k = subst (FindsAsProtocol program file text) e h in none k.0 (subst (λ x. Sees program file x k.0) (sym e) k.1)

pub returns-in-Some : goal.returns-in-Some
returns-in-Some c =
    protocol_tells c.args.self.now c.args.file c.args.text.now c.args.id c.in-Protocol.field-0 c.in-Some.full.now c.is_name_of.result c.in-Protocol.is c.in-Some.ensures.some c.is_name_of.ensures

pub returns-in-None : goal.returns-in-None
returns-in-None c =
    (λ h. absurd (true≢false (sym h)), λ h. absurd (protocol_unseen c.args.self.now c.args.file c.args.text.now c.args.id c.in-Protocol.field-0 c.in-Protocol.is c.in-None.ensures.none h))
