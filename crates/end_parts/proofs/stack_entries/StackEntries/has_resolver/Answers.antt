use Rattle.std.proofs.Common.{◌≡◌, ℤ, List, Some, None, reverse, sym, ap, ◌∙◌}
use Rattle.std.specs.Option.{option_map}
use Rattle.std.specs.List.{find}
use Rattle.channel_model.specs.Answers.{has_resolver, resolver_in}
use Rattle.channel_model.specs.Ends.{StackEntry}
use Rattle.end_parts.specs.StackDetails.{is_resolver_detail, is_resolver_of}
use Rattle.end_parts.proofs.ReleaseLemmas.{resolver_told, resolver-entries}
use Rattle.end_parts.proofs.stack_entries.StackEntries.has_resolver.Goals as goal

pub returns-in-None : goal.returns-in-None
returns-in-None c =
    let items = c.self.inside.details.items in
    let seq : ℤ = c.args.request.now.seq in
    let found : option_map (λ d. d.now) c.innermost_resolver.result ≡ find (is_resolver_detail seq) (reverse items) = rw (← c.as_slice.ensures.value) c.innermost_resolver.ensures in
    let none : find (is_resolver_detail seq) (reverse items) ≡ None = sym found ∙ ap (λ f. option_map (λ d. d.now) f) c.in-None.is in
    sym (ap (λ (es : List StackEntry). is_resolver_of c.args.request.now.route c.args.request.now.number (option_map resolver_in (find (has_resolver seq) es))) (sym c.self.view_is)
    ∙ ap (is_resolver_of c.args.request.now.route c.args.request.now.number) (resolver-entries seq c.self.inside.frames (reverse items) c.self.invariant.0 ∙ ap (option_map resolver_told) none))

pub returns-in-Some : goal.returns-in-Some
returns-in-Some c =
    let items = c.self.inside.details.items in
    let seq : ℤ = c.args.request.now.seq in
    let found : option_map (λ d. d.now) c.innermost_resolver.result ≡ find (is_resolver_detail seq) (reverse items) = rw (← c.as_slice.ensures.value) c.innermost_resolver.ensures in
    let there : find (is_resolver_detail seq) (reverse items) ≡ Some c.in-Some.detail.now = sym found ∙ ap (λ f. option_map (λ d. d.now) f) c.in-Some.is in
    c.is_alike.ensures
    ∙ sym (ap (λ (es : List StackEntry). is_resolver_of c.args.request.now.route c.args.request.now.number (option_map resolver_in (find (has_resolver seq) es))) (sym c.self.view_is)
    ∙ ap (is_resolver_of c.args.request.now.route c.args.request.now.number) (resolver-entries seq c.self.inside.frames (reverse items) c.self.invariant.0 ∙ ap (option_map resolver_told) there))
