use Rattle.std.proofs.Common.{ℕ, ◌+◌, ◌<◌, List, length, take, refl, ap, arith, length-append}
use Rattle.std.proofs.lemmas.List.{length-take}
use Rattle.std.specs.Prelude.{Option, Some, None, IfSome}
use Rattle.std.specs.Io.KnownBytes.{Consumes}
use Rattle.ipdl_base.specs.Outside.{HasMore}
use Rattle.host_io.proofs.files.read_all.Goals as goal

-- a reader that gave so many bytes, and then more, has more than these
more_than : (old mid new : Option (List ℕ)) (bytes piece : List ℕ) (limit : ℕ) → Consumes old mid bytes → Consumes mid new piece → limit < length bytes + length piece → IfSome old (λ all. HasMore limit (Some all))
more_than None mid new bytes piece limit a b more = tt
more_than (Some all) None new bytes piece limit a b more = elim a [ ]
more_than (Some all) (Some left) None bytes piece limit a b more = elim b [ ]
more_than (Some all) (Some left) (Some rest) bytes piece limit a b more =
    record { bytes = all; has = refl; large = omega (arith, more, ap length a, ap length b, length-append bytes left, length-append piece rest) }

pub returns-then-n-saturating_sub-clause-bytes : goal.returns-then-n-saturating_sub-clause-bytes
returns-then-n-saturating_sub-clause-bytes g c =
    more_than (g.F.Read.remaining c.args.file.now) (g.F.Read.remaining c.pieces.file) (g.F.Read.remaining c.read.new.self) c.pieces.bytes.items (take c.in-Ok.n c.read.new.buf) c.args.limit
    c.pieces.invariant.given c.in-Ok.ensures.bytes.0
    (let few = c.pieces.invariant.few in let bound = c.in-Ok.ensures.bound in omega (arith, c.if-n-saturating_sub.true, c.saturating_sub.ensures, c.len.ensures, c.pieces.bytes.ok.0, few, bound, length-take c.in-Ok.n c.read.new.buf))
