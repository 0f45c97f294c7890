pub mod CountLaws
pub mod RangeLaws
pub mod SwapLaws
