use Rattle.std.proofs.Common.{◌≡◌, not, length, vec_len, inl, inr, refl, sym, ap, ◌∙◌, subst, arith}
use Rattle.std.specs.Prelude.{option_copied}
use Rattle.std.proofs.lemmas.Result.{IfErr-weaker}
use Rattle.sync_list.specs.declared.line.ListLine.{ListLine}
use Rattle.sync_list.specs.Forms.{blank, comment, value, more}
use Rattle.sync_list.specs.Reading.{IsLine}
use Rattle.sync_list.proofs.Grown.{open_word-push}
use Rattle.sync_list.proofs.Lines.{sections_quiet, seen_after}
use Rattle.sync_list.proofs.Refused.{bad_section, bad_value, bad_other, none_yet, some_yet}
use Rattle.sync_list.proofs.reader.ListReader.read.Goals as goal

pub returns-then-is_empty-clause-err : goal.returns-then-is_empty-clause-err
returns-then-is_empty-clause-err c =
    let sections = c.args.self.now.sections in
    let counted : vec_len sections ≡ length sections.items = omega arith in
    inr (refl, λ forms read. bad_value forms c.args.line.now c.in-Value.word.now c.in-Value.value.now c.in-Value.ensures (none_yet forms sections.items (vec_len sections) read.sections counted (sym c.is_empty.ensures ∙ c.if-is_empty.true)))

pub returns-in-Blank-clause-ok : goal.returns-in-Blank-clause-ok
returns-in-Blank-clause-ok c forms read counted =
    let P : ListLine → Type 0 = IsLine c.args.line.now in
    elim c.in-Blank.is [
      | inl e ↦ record {
        form = blank;
        fits = subst P e c.line_of.ensures;
        following = record { sections = sections_quiet forms blank _ refl refl read.sections; seen = seen_after c.args.self.now.seen forms blank refl read.seen; unfinished = sym (open_word-push forms blank) };
      }
      | inr e ↦ record {
        form = comment;
        fits = subst P e c.line_of.ensures;
        following = record { sections = sections_quiet forms comment _ refl refl read.sections; seen = seen_after c.args.self.now.seen forms comment refl read.seen; unfinished = sym (open_word-push forms comment) };
      }
    ]

pub returns-in-Section-clause-err : goal.returns-in-Section-clause-err
returns-in-Section-clause-err c =
    IfErr-weaker c.begin.result _ _
    (λ fault h. elim h [
      | inl e ↦ inl e
      | inr x ↦ inr (x.0, λ forms read. bad_section forms c.args.line.now c.in-Section.protocol.now c.in-Section.message.now c.in-Section.ensures (x.1 forms read))
    ])
    c.begin.ensures.err

pub returns-else-is_empty-clause-ok : goal.returns-else-is_empty-clause-ok
returns-else-is_empty-clause-ok c forms read counted =
    let sections = c.args.self.now.sections in
    let lens : vec_len sections ≡ length sections.items = omega arith in
    let form = value c.in-Value.word.now c.in-Value.value.now in
    record {
      form = form;
      fits = (c.in-Value.ensures, some_yet forms sections.items (vec_len sections) read.sections lens (sym c.is_empty.ensures ∙ c.if-is_empty.false));
      following = c.take_value.ensures forms form read (refl, ap not c.are_blanks.ensures);
    }

pub returns-in-Some-clause-ok : goal.returns-in-Some-clause-ok
returns-in-Some-clause-ok c forms read counted =
    let form = more c.in-Some.word.now in
    record {
      form = form;
      fits = (c.in-Indented.ensures, sym read.unfinished ∙ ap option_copied c.in-Some.is);
      following = c.take_value-in-Indented.ensures forms form read (refl, refl);
    }

pub returns-in-Other-clause-err : goal.returns-in-Other-clause-err
returns-in-Other-clause-err c = inr (refl, λ forms read. bad_other forms c.args.line.now c.in-Other.ensures)
