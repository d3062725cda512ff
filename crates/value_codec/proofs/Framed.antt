-- What bytes begin with, by what is spelled there.
use Rattle.std.proofs.Common.{◌≡◌, ◌≤◌, ◌<◌, ℕ, ◌+◌, ◌-◌, ◌^◌, ℤ, Bool, true, false, not, cond, ltb, List, ◌++◌, length, take, drop, Option, Some, None, Result, Ok, Err, refl, sym, ap, subst, ◌∙◌, arith, append_assoc, length-append, inl, inr}
use Rattle.std.proofs.Math.Seq.{take-add}
use Rattle.std.proofs.lemmas.Bool.{ltb-true, ltb-false, lt-ltb, le-ltb}
use Rattle.std.proofs.lemmas.List.{take_at, drop_at, take-append-drop, length-take, length-drop}
use Rattle.ipdl_base.specs.declared.message.Body.{Body}
use Rattle.ipdl_base.specs.declared.message.Message.{Message}
use Rattle.ipdl_base.specs.declared.schema.Schema.{Schema}
use Rattle.ipdl_base.specs.Plain.{plain_body, plain_message}
use Rattle.ipdl_base.specs.Sound.{IsSound, message_of}
use Rattle.value_types.specs.declared.layout.Layout.{Layout}
use Rattle.value_types.proofs.Boxes.{fits as fits-plain}
use Rattle.value_codec.specs.declared.decoding.DecodeResult.{DecodeResult}
use Rattle.value_codec.specs.declared.decoding.DecodeResult.TheVariants.{Frame, Short, Bad, NoMemory}
use Rattle.value_codec.specs.declared.fault.Fault.{Fault}
use Rattle.value_codec.specs.declared.header.Header.{Header}
use Rattle.ipdl_base.specs.declared.finding.TheConstants.Rule as rule
use Rattle.value_codec.specs.Decoding.{whole_size, payload_in, contents_of_type, contents_after, contents, message_from, with_contents, after_sound_header, after_header, begins, Yields, IsShort, FrameFault, FrameBegins, IsTrueOf, HasFitting, IsFrame, IsShortBy, IsBadAt}
use Rattle.value_codec.specs.Frames.{FrameType, header_size, header_in, header_of, has_mark, type_of, are_flags, is_route, is_seq, is_transaction, type_fault, fault_of_type, fields_fault, after_mark, header_fault}
use Rattle.value_codec.specs.Spelling.{mark_of, fields_bytes, payload_bytes, body_flags, frame_bytes, FrameOf}
use Rattle.value_codec.proofs.Fielded.{HasFieldsOf, fields_there, fields_fit, header_again, mark_there, mark_again}
use Rattle.value_codec.proofs.Lengths.{payload_length}
use Rattle.value_codec.proofs.LittleEndian.{IsBytes}
use Rattle.value_codec.proofs.Said.{IsSaid, AreOfType, said, Speaks, speaks}
use Rattle.value_codec.proofs.Taken.{IsBytes-drop, IsBytes-take}
use Rattle.value_codec.proofs.Types.{type_means}
use Rattle.value_codec.proofs.ValuesAgain.{IsBytes-right}

-- Tests that find no fault

then_none : {X : Type 0} (b : Bool) (o : Option X) (y : X) → cond b o (Some y) ≡ None → (b ≡ true) × (o ≡ None)
then_none true o y e = (refl, e)
then_none false o y e = absurd cc

else_none : {X : Type 0} (b : Bool) (y : X) (o : Option X) → cond b (Some y) o ≡ None → (b ≡ false) × (o ≡ None)
else_none true y o e = absurd cc
else_none false y o e = (refl, e)

not_false : (b : Bool) → not b ≡ false → b ≡ true
not_false true e = refl
not_false false e = absurd cc

after_none : (layout : Layout) (o : Option (ℕ × ℕ)) → after_mark layout o ≡ None → o ≡ None
after_none layout None e = refl
after_none layout (Some (offset, rule)) e = absurd cc

-- A header that breaks no rule.
record IsUnbroken (layout : Layout) (schema : Schema) (bytes : List ℕ) (type : FrameType) : Type 0 where
  mark : has_mark layout bytes ≡ true
  small : (header_of layout bytes).size ≤ layout.most_payload
  of : type_of schema (header_of layout bytes).number ≡ Some type
  are : AreOfType (header_of layout bytes) type

unbroken_type : (h : Header) (type : FrameType) → type_fault h type ≡ None → AreOfType h type
unbroken_type h type e =
    let flags = else_none (not (are_flags type h.flags)) (12, (rule.BAD_FLAGS).number) _ e in
    let route = else_none (not (is_route type h.route)) (4, (rule.BAD_FIELD).number) _ flags.1 in
    let seq = else_none (not (is_seq type h.seq)) (16, (rule.BAD_FIELD).number) _ route.1 in
    let transaction = else_none (not (is_transaction type h.transaction)) (20, (rule.BAD_FIELD).number) None seq.1 in
    record { flags = not_false _ flags.0; route = not_false _ route.0; seq = not_false _ seq.0; transaction = not_false _ transaction.0 }

some_type : (h : Header) (o : Option FrameType) → fault_of_type h o ≡ None → (type : FrameType) × (o ≡ Some type) × AreOfType h type
some_type h None e = absurd cc
some_type h (Some type) e = (type, refl, unbroken_type h type e)

unbroken : (layout : Layout) (schema : Schema) (bytes : List ℕ) → header_fault layout schema bytes ≡ None → (type : FrameType) × IsUnbroken layout schema bytes type
unbroken layout schema bytes e =
    let h = header_of layout bytes in
    let mark = then_none (has_mark layout bytes) (after_mark layout (fields_fault layout schema h)) (0, (rule.BAD_MARK).number) e in
    let fields = after_none layout (fields_fault layout schema h) mark.1 in
    let small = else_none (ltb layout.most_payload h.size) (0, (rule.LARGE_PAYLOAD).number) (fault_of_type h (type_of schema h.number)) fields in
    let found = some_type h (type_of schema h.number) small.1 in
    (found.0, record { mark = mark.0; small = ltb-false layout.most_payload h.size small.0; of = found.1; are = found.2 })

no_type_fault : (h : Header) (type : FrameType) → AreOfType h type → type_fault h type ≡ None
no_type_fault h type are =
    (λ i. cond (not (are.flags i)) (Some (12, (rule.BAD_FLAGS).number)) (cond (not (are.route i)) (Some (4, (rule.BAD_FIELD).number)) (cond (not (are.seq i)) (Some (16, (rule.BAD_FIELD).number)) (cond (not (are.transaction i)) (Some (20, (rule.BAD_FIELD).number)) None))))

-- What is read is spelled in the same way

frame_there : (layout : Layout) (bytes payload : List ℕ) (h : Header) → IsBytes bytes → h ≡ header_of layout bytes → header_size layout ≤ length bytes → has_mark layout bytes ≡ true → payload ≡ payload_in layout h bytes
    → take (whole_size layout h) bytes ≡ (mark_of layout ++ fields_bytes h.size h.route h.number h.flags h.seq h.transaction) ++ payload
frame_there layout bytes payload h fits is long mark payload_is =
    let m : ℕ = length (mark_of layout) in
    let following : List ℕ = drop m bytes in
    let front : take m bytes ≡ mark_of layout = mark_there layout bytes fits (omega (arith, long)) mark in
    let fields : take 24 following ≡ fields_bytes h.size h.route h.number h.flags h.seq h.transaction =
    subst (λ (x : Header). take 24 following ≡ fields_bytes x.size x.route x.number x.flags x.seq x.transaction) (sym is) (fields_there following (IsBytes-drop m bytes fits) (omega (arith, long, length-drop m bytes))) in
    let there : take h.size (drop (m + 24) bytes) ≡ payload = sym payload_is in
    take-add (m + 24) h.size bytes ∙ (λ i. (take-add m 24 bytes ∙ (λ j. front j ++ fields j)) i ++ there i)

-- a complete frame whose header breaks no rule and whose payload can be read
frame_found : (layout : Layout) (schema : Schema) (bytes : List ℕ) (type : FrameType) (made : ℤ) (b : Body) → IsBytes bytes → IsUnbroken layout schema bytes type → whole_size layout (header_of layout bytes) ≤ length bytes → header_size layout ≤ length bytes
    → contents layout schema bytes ≡ Ok (made, b) → FrameBegins layout schema bytes (message_from (header_of layout bytes) made b) (whole_size layout (header_of layout bytes))
frame_found layout schema bytes type made b fits ok whole long e =
    let h : Header = header_of layout bytes in
    let payload : List ℕ = payload_in layout h bytes in
    let m : Message = message_from h made b in
    let header_fits : HasFieldsOf h = fields_fit (drop (length (mark_of layout)) bytes) (IsBytes-drop (length (mark_of layout)) bytes fits) in
    let payload_fits : IsBytes payload = IsBytes-take h.size (drop (header_size layout) bytes) (IsBytes-drop (header_size layout) bytes fits) in
    let read : contents_of_type layout schema h (Some type) payload ≡ Ok (made, b) = subst (λ (o : Option FrameType). contents_of_type layout schema h o payload ≡ Ok (made, b)) ok.of e in
    let s : IsSaid layout schema h payload made b = said layout schema h payload header_fits payload_fits type made b (type_means schema h.number type ok.of) ok.are read in
    let size : length payload ≡ h.size = omega (arith, length-take h.size (drop (header_size layout) bytes), length-drop (header_size layout) bytes, whole) in
    let size_is : h.size ≡ length (payload_bytes layout schema m) = sym size ∙ ap length s.bytes in
    let there = frame_there layout bytes payload h fits refl long ok.mark refl in
    let spelled : (mark_of layout ++ fields_bytes h.size h.route h.number h.flags h.seq h.transaction) ++ payload ≡ frame_bytes layout schema m =
    (λ i. (mark_of layout ++ fields_bytes (size_is i) h.route h.number (s.flags i) h.seq h.transaction) ++ s.bytes i) in
    record { within = whole; frame = record { fits = s.fits; small = omega (arith, ok.small, size_is, payload_length layout schema m); spelled = there ∙ spelled } }

-- What was decoded is true of the bytes, and what is true of them was decoded.
module _ (layout : Layout) (schema : Schema) (bytes : List ℕ) (fits : IsBytes bytes) where
  -- the same of what the bytes begin with, where boxes are at one place
  abbrev pub IsTold : DecodeResult → Type 0
  IsTold (Frame m n) = FrameBegins layout schema bytes m n
  IsTold (Short n) = IsShort layout schema bytes n
  IsTold (Bad offset rule) = FrameFault layout schema bytes offset rule
  IsTold NoMemory = ⊥

  contents_told : (o : Result (ℤ × Body) Fault) → contents layout schema bytes ≡ o → header_size layout ≤ length bytes → header_fault layout schema bytes ≡ None → whole_size layout (header_of layout bytes) ≤ length bytes → IsTold (with_contents layout (header_of layout bytes) o)
  contents_told (Ok (made, b)) is long none whole = let ok = unbroken layout schema bytes none in frame_found layout schema bytes ok.0 made b fits ok.1 whole long is
  contents_told (Err fault) is long none whole = (long, inr (none, (fault, whole, is, refl, refl)))

  sound_told : header_size layout ≤ length bytes → header_fault layout schema bytes ≡ None → (b : Bool) → ltb (length bytes) (whole_size layout (header_of layout bytes)) ≡ b
      → IsTold (cond b (Short (whole_size layout (header_of layout bytes) - length bytes)) (with_contents layout (header_of layout bytes) (contents layout schema bytes)))
  sound_told long none true is = let less = ltb-true (length bytes) (whole_size layout (header_of layout bytes)) is in inr (long, none, omega (arith, less), omega (arith, less))
  sound_told long none false is = contents_told (contents layout schema bytes) refl long none (ltb-false (length bytes) (whole_size layout (header_of layout bytes)) is)

  header_told : header_size layout ≤ length bytes → (o : Option (ℕ × ℕ)) → header_fault layout schema bytes ≡ o → IsTold (after_header layout schema bytes o)
  header_told long (Some (offset, rule)) is = (long, inl is)
  header_told long None is = sound_told long is (ltb (length bytes) (whole_size layout (header_of layout bytes))) refl

  front_told : (b : Bool) → ltb (length bytes) (header_size layout) ≡ b → IsTold (cond b (Short (header_size layout - length bytes)) (after_header layout schema bytes (header_fault layout schema bytes)))
  front_told true is = let less = ltb-true (length bytes) (header_size layout) is in inl (omega (arith, less), omega (arith, less))
  front_told false is = header_told (ltb-false (length bytes) (header_size layout) is) (header_fault layout schema bytes) refl

  pub begins_told : IsTold (begins layout schema bytes)
  unfolding begins
  begins_told = front_told (ltb (length bytes) (header_size layout)) refl

  pub told : (d : DecodeResult) → Yields d (begins layout schema bytes) → IsTrueOf layout schema bytes d
  told NoMemory e = tt
  told (Frame m n) e = subst IsTold e begins_told
  told (Short n) e = subst IsTold e begins_told
  told (Bad offset rule) e = subst IsTold e begins_told

  -- short bytes
  pub short_begins : (n : ℕ) → IsShort layout schema bytes n → begins layout schema bytes ≡ Short n
  unfolding begins
  short_begins n (inl h) =
      let less : ltb (length bytes) (header_size layout) ≡ true = lt-ltb (length bytes) (header_size layout) (omega (arith, h.0, h.1)) in
      let rest : header_size layout - length bytes ≡ n = omega (arith, h.1) in
      (λ i. cond (less i) (Short (rest i)) (after_header layout schema bytes (header_fault layout schema bytes)))
  short_begins n (inr h) =
      let size : ℕ = whole_size layout (header_of layout bytes) in
      let long : ltb (length bytes) (header_size layout) ≡ false = le-ltb (length bytes) (header_size layout) h.0 in
      let less : ltb (length bytes) size ≡ true = lt-ltb (length bytes) size (omega (arith, h.2, h.3)) in
      let rest : size - length bytes ≡ n = omega (arith, h.3) in
      (λ i. cond (long i) (Short (header_size layout - length bytes)) (after_header layout schema bytes (h.1 i)))
      ∙ (λ i. cond (less i) (Short (rest i)) (with_contents layout (header_of layout bytes) (contents layout schema bytes)))

  pub bad_begins : (offset rule : ℕ) → FrameFault layout schema bytes offset rule → begins layout schema bytes ≡ Bad offset rule
  unfolding begins
  bad_begins offset rule (long, inl h) =
      let longer : ltb (length bytes) (header_size layout) ≡ false = le-ltb (length bytes) (header_size layout) long in
      (λ i. cond (longer i) (Short (header_size layout - length bytes)) (after_header layout schema bytes (h i)))
  bad_begins offset rule (long, inr (none, (fault, whole, broken, at, number))) =
      let size : ℕ = whole_size layout (header_of layout bytes) in
      let longer : ltb (length bytes) (header_size layout) ≡ false = le-ltb (length bytes) (header_size layout) long in
      let there : ltb (length bytes) size ≡ false = le-ltb (length bytes) size whole in
      (λ i. cond (longer i) (Short (header_size layout - length bytes)) (after_header layout schema bytes (none i)))
      ∙ (λ i. cond (there i) (Short (size - length bytes)) (with_contents layout (header_of layout bytes) (broken i)))
      ∙ (λ i. Bad (sym at i) (sym number i))

  pub short_told : (d : DecodeResult) → Yields d (begins layout schema bytes) → (n : ℕ) → IsShort layout schema bytes n → IsShortBy d n
  short_told NoMemory e n h = tt
  short_told (Frame m k) e n h = let p = short_begins n h in cc
  short_told (Short k) e n h = let p = short_begins n h in cc
  short_told (Bad offset rule) e n h = let p = short_begins n h in cc

  pub bad_told : (d : DecodeResult) → Yields d (begins layout schema bytes) → (offset rule : ℕ) → FrameFault layout schema bytes offset rule → IsBadAt d offset rule
  bad_told NoMemory e offset rule h = tt
  bad_told (Frame m k) e offset rule h = let p = bad_begins offset rule h in cc
  bad_told (Short k) e offset rule h = let p = bad_begins offset rule h in cc
  bad_told (Bad at number) e offset rule h = let p = bad_begins offset rule h in (cc, cc)

-- What is spelled is read

-- a header with these fields breaks no rule where the message speaks
pub frame_again : (layout : Layout) (schema : Schema) (m : Message) (rest : List ℕ) → IsSound schema → layout.most_payload < 2 ^ 32 → IsBytes (frame_bytes layout schema m) → FrameOf layout schema m (frame_bytes layout schema m)
    → begins layout schema (frame_bytes layout schema m ++ rest) ≡ Frame (plain_message m) (length (frame_bytes layout schema m))
unfolding begins
frame_again layout schema m rest sound small fits frame =
    let payload : List ℕ = payload_bytes layout schema m in
    let mark : List ℕ = mark_of layout in
    let flags : ℕ = body_flags (message_of schema m.number) m.body in
    let h : Header = record { size = length payload; route = m.route; number = m.number; flags = flags; seq = m.seq; transaction = m.transaction } in
    let fields : List ℕ = fields_bytes h.size h.route h.number h.flags h.seq h.transaction in
    let bytes : List ℕ = frame_bytes layout schema m ++ rest in
    let few : length payload ≤ layout.most_payload = omega (arith, payload_length layout schema m, frame.small) in
    let payload_fits : IsBytes payload = IsBytes-right (mark ++ fields) payload fits in
    let s : Speaks layout schema m m.body = speaks layout schema sound m m.body frame.fits (payload_fits, omega (arith, few)) in
    let h_fits : HasFieldsOf h = record { size = omega (arith, few); route = s.route_fits; number = s.number; flags = s.flags_small; seq = s.seq_fits; transaction = s.transaction_fits } in
    let whole : bytes ≡ (mark ++ fields) ++ (payload ++ rest) = append_assoc (mark ++ fields) payload rest in
    let marked : bytes ≡ mark ++ (fields ++ (payload ++ rest)) = whole ∙ append_assoc mark fields (payload ++ rest) in
    let front : length (mark ++ fields) ≡ header_size layout = length-append mark fields in
    let following : drop (length mark) bytes ≡ fields ++ (payload ++ rest) = ap (drop (length mark)) marked ∙ drop_at mark (fields ++ (payload ++ rest)) (length mark) refl in
    let header_is : header_of layout bytes ≡ h = ap header_in following ∙ header_again h (payload ++ rest) h_fits in
    let has : has_mark layout bytes ≡ true = subst (λ (xs : List ℕ). has_mark layout xs ≡ true) (sym marked) (mark_again layout (fields ++ (payload ++ rest))) in
    let are : AreOfType h s.type = record { flags = s.flags; route = s.route; seq = s.seq; transaction = s.transaction } in
    let fields_ok : fields_fault layout schema h ≡ None = (λ i. cond (le-ltb layout.most_payload (length payload) few i) (Some (0, (rule.LARGE_PAYLOAD).number)) (fault_of_type h (s.of i))) ∙ no_type_fault h s.type are in
    let header_ok : header_fault layout schema bytes ≡ None = (λ i. cond (has i) (after_mark layout (fields_fault layout schema (header_is i))) (Some (0, (rule.BAD_MARK).number))) ∙ ap (after_mark layout) fields_ok in
    let size : length bytes ≡ (header_size layout + length payload) + length rest = ap length whole ∙ length-append (mark ++ fields) (payload ++ rest) ∙ (λ i. front i + length-append payload rest i) ∙ omega arith in
    let long : ltb (length bytes) (header_size layout) ≡ false = le-ltb (length bytes) (header_size layout) (omega (arith, size)) in
    let there : ltb (length bytes) (whole_size layout h) ≡ false = le-ltb (length bytes) (whole_size layout h) (omega (arith, size)) in
    let payload_is : payload_in layout h bytes ≡ payload = ap (λ (xs : List ℕ). take (length payload) (drop (header_size layout) xs)) whole ∙ ap (take (length payload)) (drop_at (mark ++ fields) (payload ++ rest) (header_size layout) front) ∙ take_at payload rest (length payload) refl in
    let says : contents_after layout schema h bytes ≡ Ok (m.made, plain_body m.body) = (λ i. contents_of_type layout schema h (s.of i) (payload_is i)) ∙ s.contents in
    let count : whole_size layout h ≡ length (frame_bytes layout schema m) = sym (length-append (mark ++ fields) payload ∙ (λ i. front i + length payload)) in
    (λ i. cond (long i) (Short (header_size layout - length bytes)) (after_header layout schema bytes (header_ok i)))
    ∙ ap (λ (x : Header). after_sound_header layout schema x bytes) header_is
    ∙ (λ i. cond (there i) (Short (whole_size layout h - length bytes)) (with_contents layout h (says i)))
    ∙ ap (Frame (plain_message m)) count

frame_decided : (layout : Layout) (schema : Schema) (bytes : List ℕ) (d : DecodeResult) → Yields d (begins layout schema bytes) → (m : Message) (n : ℕ) → begins layout schema bytes ≡ Frame (plain_message m) n → IsFrame d m n
frame_decided layout schema bytes NoMemory e m n begun = tt
frame_decided layout schema bytes (Frame decoded size) e m n begun = (cc, cc)
frame_decided layout schema bytes (Short k) e m n begun = cc
frame_decided layout schema bytes (Bad offset rule) e m n begun = cc

pub frame_begins : (layout : Layout) (schema : Schema) (bytes : List ℕ) → IsSound schema → layout.most_payload < 2 ^ 32 → IsBytes bytes → (m : Message) (n : ℕ) → FrameBegins layout schema bytes m n → begins layout schema bytes ≡ Frame (plain_message m) n
frame_begins layout schema bytes sound small fits m n h =
    let is : take n bytes ≡ frame_bytes layout schema m = h.frame.spelled in
    let own : FrameOf layout schema m (frame_bytes layout schema m) = record { fits = h.frame.fits; small = h.frame.small; spelled = refl } in
    let again = frame_again layout schema m (drop n bytes) sound small (subst IsBytes is (IsBytes-take n bytes fits)) own in
    let back : frame_bytes layout schema m ++ drop n bytes ≡ bytes = ap (λ (xs : List ℕ). xs ++ drop n bytes) (sym is) ∙ take-append-drop n bytes in
    let size : length (frame_bytes layout schema m) ≡ n = ap length (sym is) ∙ omega (arith, length-take n bytes, h.within) in
    ap (begins layout schema) (sym back) ∙ again ∙ ap (Frame (plain_message m)) size

pub frame_told : (layout : Layout) (schema : Schema) (bytes : List ℕ) → IsSound schema → layout.most_payload < 2 ^ 32 → IsBytes bytes → (d : DecodeResult) → Yields d (begins layout schema bytes) → (m : Message) (n : ℕ) → FrameBegins layout schema bytes m n → IsFrame d m n
frame_told layout schema bytes sound small fits d e m n h = frame_decided layout schema bytes d e m n (frame_begins layout schema bytes sound small fits m n h)

-- what is true of the bytes has a message that fits, wherever its boxes are
pub has_fitting : (layout : Layout) (schema : Schema) (bytes : List ℕ) (d : DecodeResult) → IsTrueOf layout schema bytes d → HasFitting schema d
has_fitting layout schema bytes NoMemory h = tt
has_fitting layout schema bytes (Frame m n) h = (fits-plain schema m).0 h.frame.fits
has_fitting layout schema bytes (Short n) h = tt
has_fitting layout schema bytes (Bad offset rule) h = tt
