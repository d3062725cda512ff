-- Bytes begin in one of three ways.
use Rattle.std.proofs.Common.{◌≡◌, ℕ, ◌+◌, ◌≤◌, ◌*◌, List, ◌++◌, length, refl, sym, ap, subst, ◌∙◌, arith, inl, inr, length-append}
use Rattle.ipdl_base.specs.declared.schema.Schema.{Schema}
use Rattle.ipdl_base.specs.Plain.{plain_message}
use Rattle.ipdl_base.specs.Sound.{message_of}
use Rattle.value_types.specs.declared.layout.Layout.{Layout}
use Rattle.value_types.specs.declared.layout.TheConstants.{NEW, OLD}
use Rattle.value_types.specs.Sizes.{payload_size}
use Rattle.value_types.proofs.Layouts.{body_fourfold}
use Rattle.value_codec.specs.declared.decoding.DecodeResult.{DecodeResult}
use Rattle.value_codec.specs.declared.decoding.DecodeResult.TheVariants.{Frame, Short, Bad, NoMemory}
use Rattle.value_codec.specs.Decoding.{begins}
use Rattle.value_codec.specs.Spelling.{mark_of, body_flags, fields_bytes, message_header, payload_bytes, frame_bytes, FrameOf}
use Rattle.value_codec.proofs.Framed.{IsTold, begins_told, short_begins, bad_begins, frame_again, frame_begins}
use Rattle.value_codec.proofs.Lengths.{payload_length}
use Rattle.value_codec.specs.Laws.{AreBytes, OneSpelling, ReadAgain, SomeBegins, OneOfThreeBegins, OldHasNew}

pub one_spelling : OneSpelling
one_spelling = record {
  one = λ layout schema message a b p q. p.spelled ∙ sym q.spelled;
  size = λ layout schema message frame p.
      ap length p.spelled ∙ length-append (message_header layout schema message) (payload_bytes layout schema message)
      ∙ (λ i. length-append (mark_of layout) (fields_bytes (length (payload_bytes layout schema message)) message.route message.number (body_flags (message_of schema message.number) message.body) message.seq message.transaction) i + payload_length layout schema message i);
}

pub read_again : ReadAgain
read_again layout small schema sound message frame rest fits h =
    let is : frame ≡ frame_bytes layout schema message = h.spelled in
    let own : FrameOf layout schema message (frame_bytes layout schema message) = record { fits = h.fits; small = h.small; spelled = refl } in
    subst (λ (xs : List ℕ). begins layout schema (xs ++ rest) ≡ Frame (plain_message message) (length xs)) (sym is) (frame_again layout schema message rest sound small (subst AreBytes is fits) own)

some_of : (layout : Layout) (schema : Schema) (bytes : List ℕ) (fits : AreBytes bytes) (d : DecodeResult) → IsTold layout schema bytes fits d → SomeBegins layout schema bytes
some_of layout schema bytes fits (Frame m n) h = inl (m, n, h)
some_of layout schema bytes fits (Short n) h = inr (inl (n, h))
some_of layout schema bytes fits (Bad offset rule) h = inr (inr (offset, rule, h))
some_of layout schema bytes fits NoMemory h = absurd h

pub three_cases : OneOfThreeBegins
three_cases layout small schema sound bytes fits =
    let frame = frame_begins layout schema bytes sound small fits in
    let short = short_begins layout schema bytes fits in
    let bad = bad_begins layout schema bytes fits in record {
      some = some_of layout schema bytes fits (begins layout schema bytes) (begins_told layout schema bytes fits);
      frame_or_short = λ message n rest h k. let p = frame message n h in let q = short rest k in cc;
      frame_or_bad = λ message n offset rule h k. let p = frame message n h in let q = bad offset rule k in cc;
      short_or_bad = λ rest offset rule h k. let p = short rest h in let q = bad offset rule k in cc;
      one_frame = λ a b m n h k. let p = frame a m h in let q = frame b n k in (cc, cc);
      one_rest = λ m n h k. let p = short m h in let q = short n k in cc;
      one_fault = λ offset rule offset' rule' h k. let p = bad offset rule h in let q = bad offset' rule' k in (cc, cc);
    }

pub old_has_new : OldHasNew
old_has_new schema message frame h =
    let most : payload_size NEW schema message ≤ 4 * payload_size OLD schema message = body_fourfold schema (message_of schema message.number) message.body in
    record { fits = h.fits; small = omega (arith, most, h.small); spelled = refl }
