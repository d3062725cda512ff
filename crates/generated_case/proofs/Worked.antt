-- Worked texts of generated cases.
use Rattle.std.specs.Prelude.{◌≡◌, pos, List, [], ◌∷◌, ◌++◌, codes, refl}
use Rattle.std.specs.Fmt.{digits}
use Rattle.ipdl_base.specs.declared.kinds.Destroy.TheVariants as destroy
use Rattle.ipdl_base.specs.declared.kinds.Side.{Side}
use Rattle.ipdl_base.specs.declared.kinds.Side.TheVariants as side
use Rattle.ipdl_base.specs.declared.line.Line.{Line}
use Rattle.ipdl_base.specs.declared.line.What.{What}
use Rattle.ipdl_base.specs.declared.line.What.TheVariants as what
use Rattle.generated_case.specs.Counts.{counts_of}
use Rattle.generated_case.specs.Summary.{summary_text}
use Rattle.generated_case.specs.Texts.{handlers_text, script_text}

-- one round over one actor
one_round : script_text 1 1 ≡ codes "child main\nnew a1 top PGen.PLeaf()\nsend a1 PLeaf.Ask(48)\nsend a1 PLeaf.Get(48)\nsend a1 PLeaf.__delete__()\nclose\nend\n" ++ handlers_text
unfolding digits
one_round = refl

-- the actors take turns: of two, the first has the first and the third round
three_rounds :
    script_text 3 2
    ≡ codes "child main\nnew a1 top PGen.PLeaf()\nnew a2 top PGen.PLeaf()\nsend a1 PLeaf.Ask(110)\nsend a1 PLeaf.Get(110)\nsend a2 PLeaf.Ask(127)\nsend a2 PLeaf.Get(127)\nsend a1 PLeaf.Ask(144)\nsend a1 PLeaf.Get(144)\nsend a1 PLeaf.__delete__()\nsend a2 PLeaf.__delete__()\nclose\nend\n"
    ++ handlers_text
unfolding digits
three_rounds = refl

-- a line of a side
abbrev of : Side → What → Line
of end says = record { side = end; what = says }

-- a reply that is taken is a step, but not a request that is handled; an effect is not a step
abbrev few_lines : List Line
few_lines = of side.Child (what.DeliverReply (pos 5)) ∷ of side.Child (what.TakeReply (pos 5)) ∷ of side.Child (what.Built (pos 5) 1) ∷ of side.Parent what.Close ∷ of side.Parent (what.Fall (pos 5) destroy.Deletion) ∷ []

few_counts : summary_text 1 4 (counts_of few_lines) ≡ codes "gen 1 actors 4\nparent steps 1\nchild steps 2\ntaken 0\ndropped 0\nreplaced 0\nsettled 0\nbuilt 1\nfallen 1\n"
unfolding digits
few_counts = refl
