-- What a viewer is told as a plain struct, field by field.
-- Assumes nothing.
use Rattle.views.specs.declared.pairs.ViewAnswer as library
use Rattle.capi.specs.declared.answers.ViewAnswer.{ViewAnswer}

abbrev pub plain_view : library.ViewAnswer → ViewAnswer
plain_view r = record {
  refusal = r.refusal;
  visible = r.visible;
  a = r.a;
  b = r.b;
  c = r.c;
  d = r.d;
  e = r.e;
  distance = r.distance;
  first_splits = r.first_splits;
  second_splits = r.second_splits;
  common_splits = r.common_splits;
  robinson_foulds = r.robinson_foulds;
}
