pub mod FormedTable
