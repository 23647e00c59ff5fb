-- `aes_decipher::chain::decipher` meets its contract. Assumes nothing.
use Rattle.aes_decipher.proofs.Buffer.{refused-answer, refused-buffer, done-answer, done-buffer}
use Rattle.aes_decipher.proofs.chain.decipher.Goals as goal

pub returns-then-buf-ne0-clause-answer : goal.returns-then-buf-ne0-clause-answer
returns-then-buf-ne0-clause-answer c = refused-answer c.args.d c.args.v c.args.buf.now c.if-buf-ne0.true

pub returns-then-buf-ne0-clause-buffer : goal.returns-then-buf-ne0-clause-buffer
returns-then-buf-ne0-clause-buffer c = refused-buffer c.args.d c.args.v c.args.buf.now c.if-buf-ne0.true

pub returns-clause-answer : goal.returns-clause-answer
returns-clause-answer c = done-answer c.args.d c.args.v c.args.buf.now c.if-buf-ne0.false c.chained.ensures.vector

pub returns-clause-buffer : goal.returns-clause-buffer
returns-clause-buffer c = done-buffer c.args.d c.args.v c.args.buf.now c.if-buf-ne0.false c.chained.ensures.buffer
