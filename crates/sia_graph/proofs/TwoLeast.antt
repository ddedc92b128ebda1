pub mod EnteredTwos
