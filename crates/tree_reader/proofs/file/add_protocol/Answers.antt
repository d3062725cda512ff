use Rattle.tree_reader.proofs.FileForms.{protocol_added}
use Rattle.tree_reader.proofs.file.add_protocol.Goals as goal

pub returns-clause-read : goal.returns-clause-read
returns-clause-read c = λ kind tokens h.
    protocol_added kind tokens c.args.attributes c.args.semantics c.args.draft.now c.args.reader.now c.take.new.self c.protocol_decl.new.reader c.in_ok-found.found c.as_slice.result.now c.as_slice.ensures.value c.in_ok-take.ensures.read c.in_ok-found.ensures.read c.in_ok-take.ensures.turns c.in_ok-found.ensures.turns h
