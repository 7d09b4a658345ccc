-- The answer of a canonical copy as a plain struct: the number, and how many words the copy has.
-- Assumes nothing.
use Rattle.canonical_copy.specs.declared.copies.CopyAnswer as library
use Rattle.capi.specs.declared.answers.CopyAnswer.{CopyAnswer}

abbrev pub plain_copy : library.CopyAnswer → CopyAnswer
plain_copy r = record { refusal = r.refusal; words = r.words }
