-- The test of keys decides equality.
use Rattle.std.proofs.lemmas.Bool.Decides.{Decides-eqb}
use Rattle.linked_lists.specs.Neighbours.{IsTest}
use Rattle.linked_lists.specs.Links.{key_eq}

pub key_test : IsTest key_eq
key_test = Decides-eqb
