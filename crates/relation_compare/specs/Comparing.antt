-- The comparison of a pair of types: which relation each part of it is, said here and nowhere else.
use Rattle.std.specs.Prelude.{ℕ}
use Rattle.spec_model.specs.Table.{Table}
use Rattle.spec_model.specs.Relations as Model
use Rattle.relation_compare.specs.declared.Comparison.{Comparison}

abbrev pub comparison_at : Table → ℕ → ℕ → Model.Comparison
comparison_at x t s = record {
  subtype = Model.related Model.subtype x t s;
  strict = Model.related Model.strict x t s;
  loose = Model.related Model.loose x t s;
  free = Model.related Model.free x t s;
}

-- the code's record as the model's
abbrev pub comparison_of : Comparison → Model.Comparison
comparison_of a = record { subtype = a.subtype; strict = a.strict; loose = a.loose; free = a.free }
