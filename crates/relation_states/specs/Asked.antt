-- The relation of the model that the code's enum names.
use Rattle.spec_model.specs.Relations as Model
use Rattle.relation_states.specs.declared.Relation.{Relation}
use Rattle.relation_states.specs.declared.Relation.TheVariants.{Subtype, Conforms, Strict, Loose, Free}

abbrev pub relation_of : Relation → Model.Relation
relation_of Subtype = Model.subtype
relation_of Conforms = Model.conforms
relation_of Strict = Model.strict
relation_of Loose = Model.loose
relation_of Free = Model.free
