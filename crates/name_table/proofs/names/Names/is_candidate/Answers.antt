use Rattle.std.proofs.Common.{◌≡◌, ◌∙◌, List, ℕ, Option, sym, subst, true≢false}
use Rattle.ipdl_syntax.specs.declared.program.Entry.{Entry}
use Rattle.name_table.specs.declared.decl.DeclId.{DeclId}
use Rattle.name_table.specs.declared.decl.DeclId.TheVariants.{Using}
use Rattle.name_table.specs.Candidates.{IsCandidate}
use Rattle.name_table.specs.Finds.{IsNameOf, NamesBuiltin}
use Rattle.name_table.specs.Visible.{Sees}
use Rattle.name_table.proofs.Seeing.{seen_once}
use Rattle.name_table.proofs.names.Names.is_candidate.Goals as goal

-- a property of a candidate at the full name under which it is seen
candidate_at : (program : List Entry) (file : ℕ) (text : List ℕ) (argument : Option (List ℕ)) (d : DeclId) (full : List ℕ) → Sees program file d full → IsCandidate program file text argument d
    → IsNameOf text argument full × ((other place : ℕ) → d ≡ Using other place → ¬ NamesBuiltin program file full)
candidate_at program file text argument d full s c =
    let same = seen_once program file d c.full full c.seen s in
    (subst (IsNameOf text argument) same c.named, λ o p e. subst (λ (f : List ℕ). ¬ NamesBuiltin program file f) same (c.own o p e))

pub returns-then-is_name_of : goal.returns-then-is_name_of
returns-then-is_name_of c = (
  λ h. record { full = c.in-Some.full.now; seen = c.in-Some.ensures.some; named = c.is_name_of.ensures.0 c.if-is_name_of.true; own = c.is_own.ensures.0 h },
  λ h. c.is_own.ensures.1 (candidate_at c.args.self.now c.args.file c.args.text.now _ c.args.id c.in-Some.full.now c.in-Some.ensures.some h).1,
)

pub returns-else-is_name_of : goal.returns-else-is_name_of
returns-else-is_name_of c = (
  λ h. absurd (true≢false (sym h ∙ c.if-is_name_of.false)),
  λ h. c.is_name_of.ensures.1 (candidate_at c.args.self.now c.args.file c.args.text.now _ c.args.id c.in-Some.full.now c.in-Some.ensures.some h).0,
)
