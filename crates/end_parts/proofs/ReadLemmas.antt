-- What is read of a packet.
use Rattle.std.proofs.Common.{◌≡◌, ◌≢◌, ℕ, Bool, true, false, cond, List, length, refl, ap, ◌∙◌, ◌==◌, arith}
use Rattle.std.proofs.lemmas.Bool.{eqb-true}
use Rattle.std.proofs.lemmas.Bool.Decides.{nat_tests}
use Rattle.ipdl_base.specs.declared.message.Message.{Message}
use Rattle.ipdl_base.specs.declared.schema.Schema.{Schema}
use Rattle.value_types.specs.declared.layout.TheConstants.{NEW}
use Rattle.value_codec.specs.declared.decoding.DecodeResult.{DecodeResult}
use Rattle.value_codec.specs.declared.decoding.DecodeResult.TheVariants as decoded
use Rattle.value_codec.specs.Decoding.{begins}
use Rattle.channel_model.specs.Ends as model
use Rattle.end_parts.specs.declared.packet.Packet.{Packet}
use Rattle.end_parts.specs.declared.packet.Packet.TheVariants.{Bytes, Broken}
use Rattle.end_parts.specs.PacketReading.{carried, faulty, packet_read, content_decoded}

pub read-broken : (schema : Schema) (packet : Packet) → packet ≡ Broken → packet_read schema packet ≡ carried model.mark
unfolding packet_read
read-broken schema packet e = rw e refl

read-as : (schema : Schema) (packet : Packet) (bytes : List ℕ) (d : DecodeResult) → packet ≡ Bytes bytes → begins NEW schema bytes ≡ d → packet_read schema packet ≡ content_decoded (length bytes) d
unfolding packet_read
read-as schema packet bytes d e b = rw e (ap (content_decoded (length bytes)) b)

whole : (n size : ℕ) (m : Message) (b : Bool) → n == size ≡ b → n ≡ size → cond b (carried (model.message m)) (faulty n 10) ≡ carried (model.message m)
whole n size m true e h = refl
whole n size m false e h = let same : n == size ≡ true = grind (arith, nat_tests) in cc

part : (n size : ℕ) (m : Message) (b : Bool) → n == size ≡ b → n ≢ size → cond b (carried (model.message m)) (faulty n 10) ≡ faulty n 10
part n size m true e h = absurd (h (eqb-true n size e))
part n size m false e h = refl

pub read-message : (schema : Schema) (packet : Packet) (bytes : List ℕ) (m : Message) (n : ℕ) → packet ≡ Bytes bytes → begins NEW schema bytes ≡ decoded.Frame m n → n ≡ length bytes → packet_read schema packet ≡ carried (model.message m)
read-message schema packet bytes m n e b h = read-as schema packet bytes (decoded.Frame m n) e b ∙ whole n (length bytes) m (n == length bytes) refl h

pub read-part : (schema : Schema) (packet : Packet) (bytes : List ℕ) (m : Message) (n : ℕ) → packet ≡ Bytes bytes → begins NEW schema bytes ≡ decoded.Frame m n → n ≢ length bytes → packet_read schema packet ≡ faulty n 10
read-part schema packet bytes m n e b h = read-as schema packet bytes (decoded.Frame m n) e b ∙ part n (length bytes) m (n == length bytes) refl h

pub read-short : (schema : Schema) (packet : Packet) (bytes : List ℕ) (n : ℕ) → packet ≡ Bytes bytes → begins NEW schema bytes ≡ decoded.Short n → packet_read schema packet ≡ faulty (length bytes) 10
read-short schema packet bytes n e b = read-as schema packet bytes (decoded.Short n) e b

pub read-bad : (schema : Schema) (packet : Packet) (bytes : List ℕ) (offset rule : ℕ) → packet ≡ Bytes bytes → begins NEW schema bytes ≡ decoded.Bad offset rule → packet_read schema packet ≡ faulty offset rule
read-bad schema packet bytes offset rule e b = read-as schema packet bytes (decoded.Bad offset rule) e b
