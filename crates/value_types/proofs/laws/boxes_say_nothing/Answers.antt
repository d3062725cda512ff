use Rattle.std.proofs.Common.{[]}
use Rattle.ipdl_base.specs.Sound.{message_of}
use Rattle.value_types.proofs.Boxes as boxes
use Rattle.value_types.proofs.PlainTypes as types
use Rattle.value_types.proofs.laws.boxes_say_nothing.Goals as goal

pub returns : goal.returns
returns c = record {
  has_type = λ schema shape v. boxes.both (boxes.has_type schema shape v);
  have_types = λ schema params vs. boxes.both (boxes.have_types schema params vs);
  fits = boxes.fits;
  size = boxes.value_size-plain;
  sizes = boxes.values_size-plain;
  payload = λ layout schema message. boxes.body_size-plain layout schema (message_of schema message.number) message.body;
  text = boxes.value_text-plain;
  texts = λ schema params vs. boxes.parts_text-plain [] schema params vs;
  type_has = λ schema shape v. boxes.both (types.type_has schema shape v);
  type_size = types.type_size;
  type_text = types.type_text;
}
