-- Each move keeps the rule of a queue in order.
use Rattle.std.proofs.Common.{◌≡◌, ◌≢◌, ℕ, zero, suc, true, true≢false, List, [], ◌∷◌, ◌++◌, length, set, sym, refl, ap, ◌∙◌, subst, ⊎_elim, append_assoc}
use mathlib.Core.Option.{some, some-ne-none}
use lib.ListN.{get_elem?}
use Rattle.crossbeam_queue.specs.Fifo.{Pushes, Pops, Forks, Merges, Learns}
use Rattle.crossbeam_queue.proofs.Lists.{at_set, at_snoc}
use Rattle.ordered_queue.specs.declared.view.PassView.{PassView}
use Rattle.ordered_queue.specs.InOrder.{IsInOrder, Knows, PopsAt, PushesAt, first_view, popping_part, pushing_part, spent_view, whole, with_popped, with_pushed}

module _ {T : Type 0} where
  at_end : (views : List (PassView T)) (last view : PassView T) (pass : ℕ) → get_elem? views pass ≢ some view → get_elem? (views ++ last ∷ []) pass ≡ some view → pass ≡ length views
  at_end [] last view zero apart at = refl
  at_end [] last view (suc pass) apart at = absurd (some-ne-none view (sym at))
  at_end (first ∷ rest) last view zero apart at = absurd (apart at)
  at_end (first ∷ rest) last view (suc pass) apart at = ap suc (at_end rest last view pass apart at)

  abbrev Each : (ℕ → PassView T → Type 0) → List (PassView T) → Type 0
  Each F views = (pass : ℕ) (view : PassView T) → get_elem? views pass ≡ some view → F pass view

  each_set : (F : ℕ → PassView T → Type 0) (views : List (PassView T)) (port : ℕ) (w : PassView T) → F port w → ((pass : ℕ) (view : PassView T) → pass ≢ port → get_elem? views pass ≡ some view → F pass view) → Each F (set views port w)
  each_set F views port w mine others pass view at =
      ⊎_elim
      (λ (x : (pass ≡ port) × (w ≡ view)). subst (λ (y : ℕ × PassView T). F y.0 y.1) (λ i. (sym x.0 i, x.1 i)) mine)
      (λ (x : (pass ≢ port) × (get_elem? views pass ≡ some view)). others pass view x.0 x.1)
      (at_set views port pass w view at)

  -- what a rule states of each pass
  abbrev Seen : ℕ → ℕ → List T → List T → ℕ → PassView T → Type 0
  Seen pusher popper pushed popped pass view = PushesAt pusher pushed pass view × PopsAt popper popped pass view

  pub begins : IsInOrder {T = T} [] (first_view ∷ [])
  begins = record {
    pusher = 0;
    popper = 0;
    pushed = [];
    popped = [];
    order = refl;
    seen =
        each_set (Seen 0 0 [] []) (first_view ∷ []) 0 first_view ((λ _. (refl, refl)), λ _. (refl, refl))
        (λ pass view other at. absurd (other (at_end [] first_view view pass (λ e. some-ne-none view (sym e)) at)));
  }

  pub pushes : (n port : ℕ) (v : PassView T) (x : T) → v.pushes ≡ true → Pushes IsInOrder n port v x (λ w. w ≡ with_pushed v x)
  pushes n port v x may held views _ rule at =
      let w : PassView T = with_pushed v x in
      let mine = rule.seen port v at in
      let pushed : List T = rule.pushed ++ x ∷ [] in (
        w,
        record {
          pusher = rule.pusher;
          popper = rule.popper;
          pushed = pushed;
          popped = rule.popped;
          order = ap (λ xs. xs ++ x ∷ []) rule.order ∙ append_assoc rule.popped held (x ∷ []);
          seen =
              each_set (Seen rule.pusher rule.popper pushed rule.popped) views port w
              ((λ _. ((mine.0 may).0, ap (λ xs. xs ++ x ∷ []) (mine.0 may).1)), mine.1)
              (λ pass view other there. ((λ can. absurd (other (((rule.seen pass view there).0 can).0 ∙ sym (mine.0 may).0))), (rule.seen pass view there).1));
        },
        refl,
      )

  pub pops : (port : ℕ) (v : PassView T) → v.pops ≡ true → Pops IsInOrder port v (λ x w. w ≡ with_popped v x)
  pops port v may x held views rule at =
      let w : PassView T = with_popped v x in
      let mine = rule.seen port v at in
      let popped : List T = rule.popped ++ x ∷ [] in (
        w,
        record {
          pusher = rule.pusher;
          popper = rule.popper;
          pushed = rule.pushed;
          popped = popped;
          order = rule.order ∙ sym (append_assoc rule.popped (x ∷ []) held);
          seen =
              each_set (Seen rule.pusher rule.popper rule.pushed popped) views port w
              (mine.0, λ _. ((mine.1 may).0, ap (λ xs. xs ++ x ∷ []) (mine.1 may).1))
              (λ pass view other there. ((rule.seen pass view there).0, λ can. absurd (other (((rule.seen pass view there).1 can).0 ∙ sym (mine.1 may).0))));
        },
        refl,
      )

  pub forks : (port : ℕ) (v : PassView T) → v.pushes ≡ true → v.pops ≡ true → Forks IsInOrder port v (pushing_part v) (popping_part v)
  forks port v may_push may_pop held views rule at =
      let left : PassView T = pushing_part v in
      let right : PassView T = popping_part v in
      let mine = rule.seen port v at in
      let between : List (PassView T) = set views port left in
      let Old : ℕ → PassView T → Type 0 = λ pass view. PushesAt rule.pusher rule.pushed pass view × (view.pops ≢ true) in
      let old : Each Old between =
      each_set Old views port left ((λ _. mine.0 may_push), λ can. true≢false (sym can))
      (λ pass view other there. ((rule.seen pass view there).0, λ can. other (((rule.seen pass view there).1 can).0 ∙ sym (mine.1 may_pop).0)))
      in record {
        pusher = rule.pusher;
        popper = length between;
        pushed = rule.pushed;
        popped = rule.popped;
        order = rule.order;
        seen =
            λ pass view there.
            ⊎_elim (λ e. ((old pass view e).0, λ can. absurd ((old pass view e).1 can)))
            (λ (is : right ≡ view). (
              (λ can. absurd (true≢false (sym (ap (λ (y : PassView T). y.pushes) is ∙ can)))),
              λ can. (at_end between right view pass (λ e. (old pass view e).1 can) there, ap (λ (y : PassView T). y.popped) (sym is) ∙ (mine.1 may_pop).1),
            ))
            (at_snoc between right view pass there);
      }

  pub merges : (port : ℕ) (v : PassView T) (other : ℕ) (u : PassView T) → v.pushes ≡ true → u.pops ≡ true → Merges IsInOrder port v other u (whole v u) spent_view
  merges port v other u may_push may_pop held views rule at two at' =
      let both : PassView T = whole v u in
      let mine = rule.seen port v at in
      let between : List (PassView T) = set views port both in
      let was : get_elem? views other ≡ some u = ⊎_elim (λ x. absurd (two x.0)) (λ x. x.1) (at_set views port other both u at') in
      let theirs = (rule.seen other u was).1 may_pop in
      let Now : ℕ → PassView T → Type 0 = λ pass view. pass ≢ other → Seen rule.pusher port rule.pushed rule.popped pass view in
      let now : Each Now between =
      each_set Now views port both (λ _. ((λ _. mine.0 may_push), λ _. (refl, theirs.1)))
      (λ pass view _ there apart. ((rule.seen pass view there).0, λ can. absurd (apart (((rule.seen pass view there).1 can).0 ∙ sym theirs.0))))
      in record {
        pusher = rule.pusher;
        popper = port;
        pushed = rule.pushed;
        popped = rule.popped;
        order = rule.order;
        seen =
            each_set (Seen rule.pusher port rule.pushed rule.popped) between other spent_view ((λ can. absurd (true≢false (sym can))), λ can. absurd (true≢false (sym can)))
            (λ pass view apart there. now pass view there apart);
      }

  pub learns : (port : ℕ) (v : PassView T) → Learns IsInOrder port v (Knows v)
  learns port v held views rule at may_push may_pop =
      let mine = rule.seen port v at in
      (mine.0 may_push).1 ∙ rule.order ∙ ap (λ xs. xs ++ held) (sym (mine.1 may_pop).1)
