use Rattle.std.proofs.Common.{length, take, drop, unwrap_or, ap, ◌∙◌}
use Rattle.ipdl_lex.specs.Pieces.{is_blank}
use Rattle.sync_list.proofs.Cuts.{front_len}
use Rattle.sync_list.proofs.line.split_blanks.Goals as goal

pub returns : goal.returns
returns c =
    let len = front_len is_blank c.args.text.now c.unwrap_or.result (c.unwrap_or.ensures ∙ ap (λ o. unwrap_or o (length c.args.text.now)) c.blanks_end.ensures) in
    record {
      front_is = c.split_at.ensures.front ∙ ap (λ n. take n c.args.text.now) len;
      rest_is = c.split_at.ensures.back ∙ ap (λ n. drop n c.args.text.now) len;
    }
