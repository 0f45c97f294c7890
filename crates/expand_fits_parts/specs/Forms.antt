-- What core forms name is there, and their parts weigh no more than numbers can say.
pub mod DocumentLaws
pub mod Fitting
pub mod FittingLaws
pub mod Naming
pub mod NamingLaws
pub mod Placing
pub mod Programs
pub mod ShowingLaws
pub mod StepLaws
pub mod Visible
