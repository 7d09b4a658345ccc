pub mod ExchangeTalliesLaws
