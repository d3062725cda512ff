use Rattle.std.proofs.Common.{length, take, drop, unwrap_or, ap, ◌∙◌}
use Rattle.ipdl_base.specs.Words.{is_word_byte}
use Rattle.sync_list.proofs.Cuts.{front_len}
use Rattle.sync_list.proofs.line.split_word.Goals as goal

pub returns : goal.returns
returns c =
    let len = front_len is_word_byte c.args.text.now c.unwrap_or.result (c.unwrap_or.ensures ∙ ap (λ o. unwrap_or o (length c.args.text.now)) c.word_end.ensures) in
    record {
      front_is = c.split_at.ensures.front ∙ ap (λ n. take n c.args.text.now) len;
      rest_is = c.split_at.ensures.back ∙ ap (λ n. drop n c.args.text.now) len;
    }
