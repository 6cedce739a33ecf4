use Rattle.text_scan.proofs.Spaces.{wides}
use Rattle.text_scan.proofs.is_wide_space.Goals as goal

pub returns-then-ch-eq-NO_BREAK_SPACE : goal.returns-then-ch-eq-NO_BREAK_SPACE
returns-then-ch-eq-NO_BREAK_SPACE c = search wides

pub returns-then-ch-eq-OGHAM_SPACE_MARK : goal.returns-then-ch-eq-OGHAM_SPACE_MARK
returns-then-ch-eq-OGHAM_SPACE_MARK c = search wides

pub returns-then-ch-lt-EN_QUAD : goal.returns-then-ch-lt-EN_QUAD
returns-then-ch-lt-EN_QUAD c = search wides

pub returns-then-ch-le-HAIR_SPACE : goal.returns-then-ch-le-HAIR_SPACE
returns-then-ch-le-HAIR_SPACE c = search wides

pub returns-then-ch-lt-LINE_SEPARATOR : goal.returns-then-ch-lt-LINE_SEPARATOR
returns-then-ch-lt-LINE_SEPARATOR c = search wides

pub returns-then-ch-le-PARAGRAPH_SEPARATOR : goal.returns-then-ch-le-PARAGRAPH_SEPARATOR
returns-then-ch-le-PARAGRAPH_SEPARATOR c = search wides

pub returns-then-ch-eq-NARROW_NO_BREAK_SPACE : goal.returns-then-ch-eq-NARROW_NO_BREAK_SPACE
returns-then-ch-eq-NARROW_NO_BREAK_SPACE c = search wides

pub returns-then-ch-eq-MEDIUM_MATHEMATICAL_SPACE : goal.returns-then-ch-eq-MEDIUM_MATHEMATICAL_SPACE
returns-then-ch-eq-MEDIUM_MATHEMATICAL_SPACE c = search wides

pub returns-then-ch-eq-IDEOGRAPHIC_SPACE : goal.returns-then-ch-eq-IDEOGRAPHIC_SPACE
returns-then-ch-eq-IDEOGRAPHIC_SPACE c = search wides

pub returns : goal.returns
returns c = search wides
