pub mod InstanceLaws
pub mod SystemTheorems
pub mod ValueLaws
pub mod WriteLaws
