pub mod SurveyLaws
pub mod SurveyOrder
pub mod SurveyTree
pub mod SurveyNodes
