pub mod ExchangeTallies
pub mod lemmas
