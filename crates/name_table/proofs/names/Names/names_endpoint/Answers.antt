use Rattle.std.proofs.Common.{◌∙◌, List, ℕ, Some, sym, ap, subst, true≢false}
use Rattle.ipdl_syntax.specs.Grammar.{whole_name}
use Rattle.name_table.specs.declared.decl.DeclId.TheVariants.{Protocol}
use Rattle.name_table.specs.Finds.{FindsProtocol, endpoint_word}
use Rattle.name_table.proofs.FullNames.{whole_name-inner}
use Rattle.name_table.proofs.names.Names.names_endpoint.Goals as goal

pub returns-in-None-protocols : goal.returns-in-None-protocols
returns-in-None-protocols c =
    let full = c.in-Some.ensures.some ∙ ap (λ (w : List ℕ). whole_name w (Some c.in-Some.inner.now)) c.word_of.ensures in (
      λ wrong. absurd (true≢false (sym wrong)),
      λ h. absurd (c.in-None-protocols.ensures (Protocol h.1)
          (subst (λ (t : List ℕ). FindsProtocol c.args.self.now c.args.file t h.1) (whole_name-inner (endpoint_word c.args.managed) h.0 c.in-Some.inner.now (sym h.2 ∙ full)) h.3)),
    )
