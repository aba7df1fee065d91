pub mod Kind
pub mod PureCommand
