use Rattle.std.proofs.Common.{◌≡◌, ◌∙◌, List, ℕ, Option, Some, None, sym, ap, option_map, true≢false, Bor}
use Rattle.std.specs.Prelude.{IfSome, IfNone}
use Rattle.ipdl_syntax.specs.declared.program.Entry.{Entry}
use Rattle.name_table.specs.declared.decl.DeclId.{DeclId}
use Rattle.name_table.specs.Declares.{full_name_of}
use Rattle.name_table.specs.Marks.{Shows}
use Rattle.name_table.specs.Visible.{Sees}
use Rattle.name_table.proofs.Seeing.{shown_sees, sees_shown}
use Rattle.name_table.proofs.names.Names.seen_name.Goals as goal

some_seen : (program : List Entry) (file : ℕ) (d : DeclId) (o : Option (Bor (List ℕ))) → Shows program file d → option_map (λ full. full.now) o ≡ full_name_of program d → IfSome o (λ full. Sees program file d full.now)
some_seen program file d None s e = tt
some_seen program file d (Some full) s e = shown_sees program file d full.now s (sym e)

none_seen : (program : List Entry) (file : ℕ) (d : DeclId) (o : Option (Bor (List ℕ))) → option_map (λ full. full.now) o ≡ full_name_of program d → IfNone o ((full : List ℕ) → ¬ Sees program file d full)
none_seen program file d (Some full) e = tt
none_seen program file d None e = λ full seen. wrong full (e ∙ (sees_shown program seen).1)
  where
    wrong : (full : List ℕ) → None ≡ Some full → ⊥
    wrong full q = cc

pub returns-then-shows-clause-some : goal.returns-then-shows-clause-some
returns-then-shows-clause-some c =
    some_seen c.args.self.now c.args.file c.args.id c.full_name.result (c.shows.ensures.0 c.if-shows.true) (c.full_name.ensures ∙ ap (λ (p : List Entry). full_name_of p c.args.id) c.self.view_is)

pub returns-then-shows-clause-none : goal.returns-then-shows-clause-none
returns-then-shows-clause-none c =
    none_seen c.args.self.now c.args.file c.args.id c.full_name.result (c.full_name.ensures ∙ ap (λ (p : List Entry). full_name_of p c.args.id) c.self.view_is)

pub returns-else-shows-clause-none : goal.returns-else-shows-clause-none
returns-else-shows-clause-none c = λ full seen. true≢false (sym (c.shows.ensures.1 (sees_shown c.args.self.now seen).0) ∙ c.if-shows.false)
