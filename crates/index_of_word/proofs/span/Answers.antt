-- `index_of_word::span` meets its contract.
use native.Mathlib.Omega.{arith}
use lib.Dec.{lit≤}
use Rattle.index_of_word.specs.Spans.{span_of}
use Rattle.index_of_word.proofs.span.Goals as goal

pub returns-then-q-le4 : goal.returns-then-q-le4
returns-then-q-le4 c = span_of 4 c.if-q-le4.true (lit≤ tt) (omega arith)

pub returns-then-q-le8 : goal.returns-then-q-le8
returns-then-q-le8 c = span_of 8 c.if-q-le8.true (lit≤ tt) (omega arith)

pub returns-then-q-le16 : goal.returns-then-q-le16
returns-then-q-le16 c = span_of 16 c.if-q-le16.true (lit≤ tt) (omega arith)

pub returns-else-q-le16 : goal.returns-else-q-le16
returns-else-q-le16 c = span_of 32 c.requires (lit≤ tt) (omega arith)
