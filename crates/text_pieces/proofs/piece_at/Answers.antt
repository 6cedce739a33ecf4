use Rattle.text_pieces.proofs.Tokens.{simples, asks-quote, asks-text}
use Rattle.text_pieces.proofs.piece_at.Goals as goal

pub quoted_piece-requires : goal.quoted_piece-requires
quoted_piece-requires c = search (simples, asks-quote, asks-text)

pub text_piece-requires : goal.text_piece-requires
text_piece-requires c = search (simples, asks-quote, asks-text)

pub returns-in-Quote : goal.returns-in-Quote
returns-in-Quote c = search (simples, asks-quote, asks-text)

pub returns-in-Number : goal.returns-in-Number
returns-in-Number c = search (simples, asks-quote, asks-text)

pub returns-in-Text : goal.returns-in-Text
returns-in-Text c = search (simples, asks-quote, asks-text)
