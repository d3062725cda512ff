-- Programs that are alike break the same rules on types, names of declarations and attributes.
use Rattle.std.proofs.Common.{inl, inr, List}
use Rattle.ipdl_base.specs.declared.finding.Finding.{Finding}
use Rattle.ipdl_syntax.specs.declared.program.Entry.{Entry}
use Rattle.type_rules.specs.Broken.{BrokenAt}
use Rattle.answer_laws.specs.Programs.{AreProgramsAlike}
use Rattle.answer_laws.proofs.Written.{unknown_type, ambiguous_type, nullable_non_actor}
use Rattle.answer_laws.proofs.Declarations.{repeated_declaration, repeated_field, bad_attribute}
use Rattle.answer_laws.proofs.Defined.{undefined_type}

module _ (program other : List Entry) (alike : AreProgramsAlike program other) where
  pub types_alike : (f : Finding) → BrokenAt program f → BrokenAt other f
  types_alike f (inl broken) = inl (broken.0, unknown_type program other alike f.place broken.1)
  types_alike f (inr (inl broken)) = inr (inl (broken.0, ambiguous_type program other alike f.place broken.1))
  types_alike f (inr (inr (inl broken))) = inr (inr (inl (broken.0, undefined_type program other alike f.place broken.1)))
  types_alike f (inr (inr (inr (inl broken)))) = inr (inr (inr (inl (broken.0, repeated_declaration program other alike f.place broken.1))))
  types_alike f (inr (inr (inr (inr (inl broken))))) = inr (inr (inr (inr (inl (broken.0, nullable_non_actor program other alike f.place broken.1)))))
  types_alike f (inr (inr (inr (inr (inr (inl broken)))))) = inr (inr (inr (inr (inr (inl (broken.0, repeated_field program other alike f.place broken.1))))))
  types_alike f (inr (inr (inr (inr (inr (inr broken)))))) = inr (inr (inr (inr (inr (inr (broken.0, bad_attribute program other alike f.place broken.1))))))
