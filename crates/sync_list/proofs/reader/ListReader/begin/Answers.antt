use Rattle.std.proofs.Common.{inr, refl, sym, ap, ◌∙◌, ◌++◌, ◌∷◌, []}
use Rattle.std.proofs.lemmas.Bool.{true≢false, not-false, not-true}
use Rattle.sync_list.specs.Forms.{section}
use Rattle.sync_list.proofs.Grown.{open_word-push}
use Rattle.sync_list.proofs.Keys.{Adds-pair}
use Rattle.sync_list.proofs.Lines.{seen_section, sections_begun}
use Rattle.sync_list.proofs.reader.ListReader.begin.Goals as goal

pub returns-then-not-is_new-clause-err : goal.returns-then-not-is_new-clause-err
returns-then-not-is_new-clause-err c =
    inr (refl, λ forms read. (read.seen.exact (c.args.protocol, c.args.message)).0 (not-false _ (sym c.in_ok-is_new.ensures.added ∙ c.if-not-is_new.true)))

pub returns-clause-ok : goal.returns-clause-ok
returns-clause-ok c forms read counted =
    let protocol = c.args.protocol.now in
    let message = c.args.message.now in
    record {
      new = λ there. true≢false (sym ((read.seen.exact (c.args.protocol, c.args.message)).1 there) ∙ not-true _ (sym c.in_ok-is_new.ensures.added ∙ c.if-not-is_new.false));
      following = record {
        sections = c.in_ok-push.ensures.items ∙ ap (λ s. c.args.self.now.sections.items ++ s ∷ []) c.in_ok-begun.ensures ∙ sections_begun forms c.args.self.now.sections.items protocol message protocol message c.args.number refl refl read.sections counted;
        seen = seen_section c.args.self.now.seen c.insert.new.self forms protocol message read.seen (Adds-pair _ _ (c.args.protocol, c.args.message) protocol message refl refl c.in_ok-is_new.ensures.updates.0);
        unfinished = sym (open_word-push forms (section protocol message));
      };
    }
