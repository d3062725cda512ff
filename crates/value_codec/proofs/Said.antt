-- A payload after a header that breaks no rule has the content of a message that fits, and the content of a message
-- is read.
use Rattle.std.proofs.Common.{◌≡◌, ◌<◌, ℕ, ◌+◌, ◌^◌, ℤ, pos, Bool, true, false, cond, eqb, List, [], ◌∷◌, length, Option, Some, Ok, refl, sym, ap, subst, ◌∙◌, arith}
use Rattle.std.proofs.lemmas.Bool.{eqb-true}
use Rattle.std.proofs.lemmas.Int.{ints}
use Rattle.std.proofs.lemmas.List.Elements.{All-from_recursion, recursion_from_All}
use Rattle.std.specs.Int.{w32}
use Rattle.std.specs.Int.RustNames.{FitsSigned}
use Rattle.std.specs.Option.{option_map_or}
use Rattle.ipdl_base.specs.declared.message.Body.{Body}
use Rattle.ipdl_base.specs.declared.message.Body.TheVariants as body
use Rattle.ipdl_base.specs.declared.message.Message.{Message}
use Rattle.ipdl_base.specs.declared.schema.MessageRow.{MessageRow}
use Rattle.ipdl_base.specs.declared.schema.Schema.{Schema}
use Rattle.ipdl_base.specs.Plain.{plain_body, plain_values}
use Rattle.ipdl_base.specs.Sound.{IsSound, message_of}
use Rattle.value_types.specs.declared.layout.Layout.{Layout}
use Rattle.value_types.specs.Fits.{all_actor_ids, IsCarriedId, HasFields, FitsBody, Fits}
use Rattle.value_codec.specs.declared.header.Header.{Header}
use Rattle.value_codec.specs.Decoding.{message_from}
use Rattle.value_codec.specs.Frames.{FrameType, goodbye, request, reply, type_of, are_flags, is_route, is_seq, is_transaction, ended, contents_at, contents_by, returns_at, fault_at}
use Rattle.value_codec.specs.Reading.{value_at}
use Rattle.value_codec.specs.Spelling.{part, reason_byte, body_bytes, body_flags, request_bytes, reply_bytes, request_flags, reply_flags, fault_flags}
use Rattle.value_codec.proofs.Fielded.{HasFieldsOf}
use Rattle.value_codec.proofs.LittleEndian.{IsBytes}
use Rattle.value_codec.proofs.Payloads.{request_read, returns_read, fault_read, goodbye_read, ended_again, request_again, returns_again, fault_again}
use Rattle.value_codec.proofs.Signed.{fits_word}
use Rattle.value_codec.proofs.Types.{TypeMeans, eqb_same, request_named, reply_named, goodbye_named, number_small, request_flags_small, reply_flags_small, fault_flags_small, fault_not_reply, reply_allowed, fault_allowed, reply_or_fault, int_same, same_int, int_other, other_int, route_lives, lives_route, field_number, transaction_of, of_transaction, transaction_fits}
use Rattle.value_codec.proofs.ValuesAgain.{IsRoomy}
use Rattle.value_codec.proofs.ValuesRead.{value_read}

-- What was read after a header is a message that fits, as it is spelled.
pub record IsSaid (layout : Layout) (schema : Schema) (h : Header) (payload : List ℕ) (made : ℤ) (b : Body) : Type 0 where
  pub fits : Fits schema (message_from h made b)
  pub bytes : payload ≡ body_bytes layout schema (message_of schema h.number) made b
  pub flags : h.flags ≡ body_flags (message_of schema h.number) b

-- The fields of a header are those of a type.
pub record AreOfType (h : Header) (type : FrameType) : Type 0 where
  pub flags : are_flags type h.flags ≡ true
  pub route : is_route type h.route ≡ true
  pub seq : is_seq type h.seq ≡ true
  pub transaction : is_transaction type h.transaction ≡ true

module _ (layout : Layout) (schema : Schema) (h : Header) (payload : List ℕ) (fits : HasFieldsOf h) (bytes_fit : IsBytes payload) where
  depth : ℕ
  depth = length payload + 1

  goodbye_said : (made : ℤ) (b : Body) → TypeMeans schema h.number goodbye → AreOfType h goodbye → ended (pos 0) body.Goodbye payload ≡ Ok (made, b) → IsSaid layout schema h payload made b
  goodbye_said made b means are e = goodbye_read (IsSaid layout schema h payload) payload made b e (λ none. record {
    fits = record { number = means; route = int_same h.route (pos 0) are.route; seq = int_same h.seq (pos 0) are.seq; transaction = int_same h.transaction (pos 0) are.transaction; made = refl };
    bytes = none;
    flags = eqb-true h.flags 0 are.flags;
  })

  fields : (row : MessageRow) (made : ℤ) (b : Body) → row.carried ≡ true → is_route (request row) h.route ≡ true → is_seq (request row) h.seq ≡ true → is_transaction (request row) h.transaction ≡ true → HasFields row (message_from h made b)
  fields row made b carried route seq transaction = record {
    carried = carried;
    route = route_lives h.route route fits.route;
    seq = (int_other h.seq (pos 0) seq, field_number h.seq fits.seq);
    transaction = transaction_of row.semantics h.transaction transaction fits.transaction;
  }

  request_said : (row : MessageRow) (made : ℤ) (b : Body) → TypeMeans schema h.number (request row) → AreOfType h (request row) → contents_by (value_at depth layout schema) layout (request row) h.flags payload ≡ Ok (made, b) → IsSaid layout schema h payload made b
  unfolding depth
  request_said row made b means are e =
      request_read layout schema (value_at depth layout schema) (value_read layout schema depth) row (IsSaid layout schema h payload) payload made b bytes_fit e (λ made vs is is_made types ids. record {
        fits = (row, record { found = means.0; number = means.2; fields = fields row made (body.Request vs) means.1 are.route are.seq are.transaction; made = is_made; types = types; ids = All-from_recursion IsCarriedId (all_actor_ids vs) ids });
        bytes = subst (λ (o : Option MessageRow). payload ≡ option_map_or (request_bytes layout schema made vs) o []) (sym means.0) is;
        flags = subst (λ (o : Option MessageRow). h.flags ≡ option_map_or request_flags o 0) (sym means.0) (eqb-true h.flags (request_flags row) are.flags);
      })

  values_said : (row : MessageRow) (made : ℤ) (b : Body) → TypeMeans schema h.number (reply row) → AreOfType h (reply row) → h.flags ≡ reply_flags row → returns_at (value_at depth layout schema) row payload ≡ Ok (made, b) → IsSaid layout schema h payload made b
  unfolding depth
  values_said row made b means are flags e =
      returns_read layout schema (value_at depth layout schema) (value_read layout schema depth) row (IsSaid layout schema h payload) payload made b bytes_fit e (λ vs is types ids. record {
        fits = (row, record { found = means.0; number = means.2; replies = means.3; fields = fields row (pos 0) (body.Reply vs) means.1 are.route are.seq are.transaction; made = refl }, record { types = types; ids = All-from_recursion IsCarriedId (all_actor_ids vs) ids });
        bytes = subst (λ (o : Option MessageRow). payload ≡ option_map_or (reply_bytes layout schema vs) o []) (sym means.0) is;
        flags = subst (λ (o : Option MessageRow). h.flags ≡ option_map_or reply_flags o 0) (sym means.0) flags;
      })

  fault_said : (row : MessageRow) (made : ℤ) (b : Body) → TypeMeans schema h.number (reply row) → AreOfType h (reply row) → h.flags ≡ fault_flags row → fault_at layout row payload ≡ Ok (made, b) → IsSaid layout schema h payload made b
  fault_said row made b means are flags e =
      fault_read layout row (IsSaid layout schema h payload) payload made b bytes_fit e (λ r is is_fault. record {
        fits = (row, record { found = means.0; number = means.2; replies = means.3; fields = fields row (pos 0) (body.Fault r) means.1 are.route are.seq are.transaction; made = refl }, is_fault);
        bytes = is;
        flags = subst (λ (o : Option MessageRow). h.flags ≡ option_map_or fault_flags o 0) (sym means.0) flags;
      })

  reply_said : (row : MessageRow) (made : ℤ) (b : Body) (is_values : Bool) → eqb h.flags (reply_flags row) ≡ is_values → TypeMeans schema h.number (reply row) → AreOfType h (reply row)
      → cond is_values (returns_at (value_at depth layout schema) row payload) (fault_at layout row payload) ≡ Ok (made, b) → IsSaid layout schema h payload made b
  unfolding depth
  reply_said row made b true is means are e = values_said row made b means are (eqb-true h.flags (reply_flags row) is) e
  reply_said row made b false is means are e = fault_said row made b means are (reply_or_fault row h.flags are.flags is) e

  pub said : (type : FrameType) (made : ℤ) (b : Body) → TypeMeans schema h.number type → AreOfType h type → contents_at layout schema type h.flags payload ≡ Ok (made, b) → IsSaid layout schema h payload made b
  unfolding depth
  said goodbye made b means are e = goodbye_said made b means are e
  said (request row) made b means are e = request_said row made b means are e
  said (reply row) made b means are e = reply_said row made b (eqb h.flags (reply_flags row)) refl means are e

-- The content of a message is read after its header.
pub record Speaks (layout : Layout) (schema : Schema) (message : Message) (b : Body) : Type 0 where
  pub type : FrameType
  pub of : type_of schema message.number ≡ Some type
  pub number : message.number < 2 ^ 32
  pub flags_small : body_flags (message_of schema message.number) b < 2 ^ 32
  pub route_fits : FitsSigned w32 message.route
  pub seq_fits : FitsSigned w32 message.seq
  pub transaction_fits : FitsSigned w32 message.transaction
  pub flags : are_flags type (body_flags (message_of schema message.number) b) ≡ true
  pub route : is_route type message.route ≡ true
  pub seq : is_seq type message.seq ≡ true
  pub transaction : is_transaction type message.transaction ≡ true
  pub contents : contents_at layout schema type (body_flags (message_of schema message.number) b) (body_bytes layout schema (message_of schema message.number) message.made b) ≡ Ok (message.made, plain_body b)

zero_fits : (z : ℤ) → z ≡ pos 0 → FitsSigned w32 z
zero_fits z e = subst (FitsSigned w32) (sym e) (fits_word (pos 0) (omega (arith, ints)) (omega (arith, ints)))

module _ (layout : Layout) (schema : Schema) (sound : IsSound schema) (m : Message) where
  abbrev IsSmall : Body → Type 0
  IsSmall b = IsBytes (body_bytes layout schema (message_of schema m.number) m.made b) × (length (body_bytes layout schema (message_of schema m.number) m.made b) < 2 ^ 32)

  roomy : (bytes : List ℕ) → IsBytes bytes × (length bytes < 2 ^ 32) → IsRoomy (length bytes + 1) bytes
  roomy bytes small = record { fits = small.0; less = omega arith; small = small.1 }

  -- what the payload gives, by the row that was found
  abbrev Gives : FrameType → Body → Option MessageRow → Type 0
  Gives type b o = contents_at layout schema type (body_flags o b) (body_bytes layout schema o m.made b) ≡ Ok (m.made, plain_body b)

  pub speaks : (b : Body) → FitsBody schema m b → IsSmall b → Speaks layout schema m b
  speaks (body.Request vs) (row, h) small =
      let at : Option MessageRow → Type 0 = λ o. IsBytes (body_bytes layout schema o m.made (body.Request vs)) × (length (body_bytes layout schema o m.made (body.Request vs)) < 2 ^ 32) in
      let here : at (Some row) = subst at h.found small in
      let below = number_small schema m.number row sound h.found in record {
        type = request row;
        of = request_named schema m.number row sound h.found h.fields.carried h.number;
        number = omega (arith, below);
        flags_small = subst (λ (o : Option MessageRow). option_map_or request_flags o 0 < 2 ^ 32) (sym h.found) (request_flags_small row);
        route_fits = fits_word m.route (omega (arith, ints, h.fields.route.0)) h.fields.route.1;
        seq_fits = fits_word m.seq h.fields.seq.1.0 h.fields.seq.1.1;
        transaction_fits = transaction_fits row.semantics m.transaction h.fields.transaction;
        flags = subst (λ (o : Option MessageRow). eqb (option_map_or request_flags o 0) (request_flags row) ≡ true) (sym h.found) (eqb_same (request_flags row) (request_flags row) refl);
        route = lives_route m.route h.fields.route;
        seq = other_int m.seq (pos 0) h.fields.seq.0;
        transaction = of_transaction row.semantics m.transaction h.fields.transaction;
        contents = subst (Gives (request row) (body.Request vs)) (sym h.found) (request_again layout schema _ row m.made vs h.made h.types (recursion_from_All IsCarriedId (all_actor_ids vs) h.ids) (roomy (request_bytes layout schema m.made vs row) here));
      }
  speaks (body.Reply vs) (row, h, g) small =
      let at : Option MessageRow → Type 0 = λ o. IsBytes (body_bytes layout schema o m.made (body.Reply vs)) × (length (body_bytes layout schema o m.made (body.Reply vs)) < 2 ^ 32) in
      let here : at (Some row) = subst at h.found small in
      let below = number_small schema m.number row sound h.found in
      let read = returns_again layout schema (length (reply_bytes layout schema vs row) + 1) row vs g.types (recursion_from_All IsCarriedId (all_actor_ids vs) g.ids) (roomy (reply_bytes layout schema vs row) here) in
      let is_reply = eqb_same (reply_flags row) (reply_flags row) refl in
      let chosen : contents_at layout schema (reply row) (reply_flags row) (reply_bytes layout schema vs row) ≡ Ok (m.made, body.Reply (plain_values vs)) =
      (λ i. cond (is_reply i) (returns_at (value_at (length (reply_bytes layout schema vs row) + 1) layout schema) row (reply_bytes layout schema vs row)) (fault_at layout row (reply_bytes layout schema vs row))) ∙ read ∙ ap (λ (z : ℤ). Ok (z, body.Reply (plain_values vs))) (sym h.made) in record {
        type = reply row;
        of = reply_named schema m.number row sound h.found h.fields.carried h.number;
        number = omega (arith, below);
        flags_small = subst (λ (o : Option MessageRow). option_map_or reply_flags o 0 < 2 ^ 32) (sym h.found) (reply_flags_small row);
        route_fits = fits_word m.route (omega (arith, ints, h.fields.route.0)) h.fields.route.1;
        seq_fits = fits_word m.seq h.fields.seq.1.0 h.fields.seq.1.1;
        transaction_fits = transaction_fits row.semantics m.transaction h.fields.transaction;
        flags = subst (λ (o : Option MessageRow). are_flags (reply row) (option_map_or reply_flags o 0) ≡ true) (sym h.found) (reply_allowed row);
        route = lives_route m.route h.fields.route;
        seq = other_int m.seq (pos 0) h.fields.seq.0;
        transaction = of_transaction row.semantics m.transaction h.fields.transaction;
        contents = subst (Gives (reply row) (body.Reply vs)) (sym h.found) chosen;
      }
  speaks (body.Fault r) (row, h, g) small =
      let below = number_small schema m.number row sound h.found in
      let bytes : List ℕ = part layout (reason_byte r ∷ []) in
      let other = fault_not_reply row in
      let chosen : contents_at layout schema (reply row) (fault_flags row) bytes ≡ Ok (m.made, body.Fault r) =
      (λ i. cond (other i) (returns_at (value_at (length bytes + 1) layout schema) row bytes) (fault_at layout row bytes)) ∙ fault_again layout row r g ∙ ap (λ (z : ℤ). Ok (z, body.Fault r)) (sym h.made) in record {
        type = reply row;
        of = reply_named schema m.number row sound h.found h.fields.carried h.number;
        number = omega (arith, below);
        flags_small = subst (λ (o : Option MessageRow). option_map_or fault_flags o 0 < 2 ^ 32) (sym h.found) (fault_flags_small row);
        route_fits = fits_word m.route (omega (arith, ints, h.fields.route.0)) h.fields.route.1;
        seq_fits = fits_word m.seq h.fields.seq.1.0 h.fields.seq.1.1;
        transaction_fits = transaction_fits row.semantics m.transaction h.fields.transaction;
        flags = subst (λ (o : Option MessageRow). are_flags (reply row) (option_map_or fault_flags o 0) ≡ true) (sym h.found) (fault_allowed row);
        route = lives_route m.route h.fields.route;
        seq = other_int m.seq (pos 0) h.fields.seq.0;
        transaction = of_transaction row.semantics m.transaction h.fields.transaction;
        contents = subst (Gives (reply row) (body.Fault r)) (sym h.found) chosen;
      }
  speaks body.Goodbye h small = record {
    type = goodbye;
    of = goodbye_named schema m.number h.number;
    number = omega (arith, h.number);
    flags_small = omega arith;
    route_fits = zero_fits m.route h.route;
    seq_fits = zero_fits m.seq h.seq;
    transaction_fits = zero_fits m.transaction h.transaction;
    flags = refl;
    route = same_int m.route (pos 0) h.route;
    seq = same_int m.seq (pos 0) h.seq;
    transaction = same_int m.transaction (pos 0) h.transaction;
    contents = ended_again (pos 0) body.Goodbye ∙ ap (λ (z : ℤ). Ok (z, body.Goodbye)) (sym h.made);
  }
