use Rattle.std.proofs.Common.{sym, ◌∙◌}
use Rattle.sync_list.proofs.Grown.{open_word-push}
use Rattle.sync_list.proofs.Lines.{value_plain, value_word, value_describes, sections_after, seen_after}
use Rattle.sync_list.proofs.reader.ListReader.take_value.Goals as goal

pub returns : goal.returns
returns c forms form read is =
    let word = c.args.word.now in
    let filled = c.args.filled in
    let plain = value_plain word filled form is in
    record {
      sections = sections_after forms form c.args.self.now.sections.items c.mark_last.new.sections.items c.describes.result plain (value_describes word filled form is ∙ sym c.describes.ensures) read.sections c.mark_last.ensures;
      seen = seen_after c.args.self.now.seen forms form plain read.seen;
      unfinished = sym (open_word-push forms form ∙ value_word word filled form is);
    }
