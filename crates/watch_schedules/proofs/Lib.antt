pub mod PlanLaws
pub mod ParamLaws
pub mod ScheduleLaws
