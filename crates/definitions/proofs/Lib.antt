pub mod Ring
pub mod FieldLaws
pub mod WordLaws
pub mod SketchLaws
pub mod EvaluationLaws
