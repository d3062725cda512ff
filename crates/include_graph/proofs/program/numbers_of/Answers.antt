use Rattle.std.proofs.Common.{◌≡◌, ◌<◌, length, ℕ, ◌+◌, List, ◌∷◌, [], ◌++◌, take, get_or, sym, ap, ◌∙◌, refl}
use Rattle.std.proofs.lemmas.List.{take_more, append-nil}
use Rattle.std.proofs.lemmas.List.Elements.{filter_map-append}
use Rattle.std.specs.declared.alloc.Global.{Global}
use Rattle.std.specs.declared.vec.Vec.{Vec}
use Rattle.include_graph.specs.declared.walk.Target.{Target}
use Rattle.include_graph.specs.declared.walk.Target.TheVariants.{Nothing, LeftOut, File}
use Rattle.include_graph.specs.Reading.{number_of, numbers_of}
use Rattle.include_graph.proofs.program.numbers_of.Goals as goal
use Rattle.include_graph.proofs.program.numbers_of.Goals.{in-File+in_ok-push, in_default}

-- the numbers, with one more target
more : (targets : List Target) (i : ℕ) (d : Target) → i < length targets → numbers_of (take (i + 1) targets) ≡ numbers_of (take i targets) ++ numbers_of (get_or targets i d ∷ [])
more targets i d within = ap numbers_of (take_more targets i d within) ∙ filter_map-append number_of (take i targets) (get_or targets i d ∷ [])

-- a target that is not a file has no number
no_number : (t : Target) → ((number : ℕ) → ¬ (t ≡ File number)) → numbers_of (t ∷ []) ≡ []
no_number Nothing none = refl
no_number LeftOut none = refl
no_number (File number) none = absurd (none number refl)

pub loop-target-preserved : goal.loop-target-preserved
loop-target-preserved c =
    let ts = c.args.targets.now in
    let i = c.loop-target.target-index in
    let step = more ts i Nothing c.loop-target-test.true in
    elim c.match-target.branch [
      | in-File+in_ok-push w ↦
          ap (λ (v : Vec ℕ Global). v.items) w.numbers-is ∙ w.in_ok-push.ensures.items ∙ ap (λ ns. ns ++ w.in-File.number ∷ []) c.loop-target.invariant
          ∙ sym (step ∙ ap (λ (t : Target). numbers_of (take i ts) ++ numbers_of (t ∷ [])) w.in-File.is)
      | in_default w ↦
          ap (λ (v : Vec ℕ Global). v.items) w.numbers-is ∙ c.loop-target.invariant
          ∙ sym (step ∙ ap (λ ns. numbers_of (take i ts) ++ ns) (no_number (get_or ts i Nothing) w.in_default.not-File) ∙ append-nil (numbers_of (take i ts)))
    ]
